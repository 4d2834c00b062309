-- Following a function on numbers: where it leads, and which number of a ring is the least.
use Rattle.std.specs.Prelude.{ℕ, zero, suc, ◌≤◌, ◌≡◌}

module _ (t : ℕ → ℕ) where
  -- the number k steps after x
  unfoldable pub after : ℕ → ℕ → ℕ
  after zero x = x
  after (suc k) x = after k (t x)

  -- x leads to y
  pub record Leads (x y : ℕ) : Type 0 where
    pub steps : ℕ
    pub there : after steps x ≡ y

  -- x leads back to itself
  pub record ComesBack (x : ℕ) : Type 0 where
    pub steps : ℕ
    pub there : after steps (t x) ≡ x

  -- x leads to h, which is the least number of a ring
  pub record IsHeadOf (x h : ℕ) : Type 0 where
    pub comes : Leads x h
    pub back : ComesBack h
    pub least : (k : ℕ) → h ≤ after k h
