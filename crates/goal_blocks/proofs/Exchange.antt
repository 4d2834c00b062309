-- Blocks of slots exchanged.
use Rattle.std.proofs.Common.{ℕ, zero, suc, ◌+◌, ◌-◌, ◌*◌, ◌^◌, ◌<◌, ◌≤◌, ◌≡◌, ◌&&◌, ◌⊎◌, inl, inr, ⊎_elim, Bool, true, false, nat_lt, nat_le, if◌then◌else◌, refl, ap, ◌∙◌, arith, zero-mul, suc-mul}
use Rattle.std.proofs.lemmas.Bool.{lt-ltb, le-ltb, le-leb, lt-leb, cases_lt}
use Rattle.goal_limits.specs.declared.collective.Collective.{Collective}
use Rattle.goal_blocks.specs.Weight.{stored}
use Rattle.goal_blocks.specs.Collectives.{initial, wanted}
use Rattle.goal_blocks.specs.Laws.{IsUndoneBy}
use Rattle.goal_blocks.specs.Segments.{exchange, exchanges, initial_in, wanted_in}
use Rattle.goal_blocks.proofs.SumPermuted.{stored_permuted}

-- a block other than the first begins after the first
block_behind : (width block : ℕ) → (block * width ≡ 0) ⊎ (width ≤ block * width)
block_behind width zero = inl (zero-mul width)
block_behind width (suc block) =
    let more = suc-mul block width in inr (omega (arith, more))

module _ (width block : ℕ) where
  pub exchange_of_first_block : (slot : ℕ) → slot < width → exchange width block slot ≡ block * width + slot
  unfolding exchange
  exchange_of_first_block slot low =
      ap (λ (b : Bool). if b then block * width + slot else (if nat_le (block * width) slot && nat_lt slot (block * width + width) then slot - block * width else slot)) (lt-ltb slot width low)

  exchange_after_first_block : (slot : ℕ) → width ≤ slot → exchange width block slot ≡ (if nat_le (block * width) slot && nat_lt slot (block * width + width) then slot - block * width else slot)
  unfolding exchange
  exchange_after_first_block slot high =
      ap (λ (b : Bool). if b then block * width + slot else (if nat_le (block * width) slot && nat_lt slot (block * width + width) then slot - block * width else slot)) (le-ltb slot width high)

  pub exchange_of_block : (slot : ℕ) → width ≤ slot → block * width ≤ slot → slot < block * width + width → exchange width block slot ≡ slot - block * width
  exchange_of_block slot high from to =
      exchange_after_first_block slot high ∙ (λ i. if le-leb (block * width) slot from i && nat_lt slot (block * width + width) then slot - block * width else slot)
      ∙ ap (λ (b : Bool). if b then slot - block * width else slot) (lt-ltb slot (block * width + width) to)

  pub exchange_outside_blocks : (slot : ℕ) → width ≤ slot → (slot < block * width) ⊎ (block * width + width ≤ slot) → exchange width block slot ≡ slot
  exchange_outside_blocks slot high (inl before) =
      exchange_after_first_block slot high ∙ (λ i. if lt-leb (block * width) slot before i && nat_lt slot (block * width + width) then slot - block * width else slot)
  exchange_outside_blocks slot high (inr after) =
      exchange_after_first_block slot high ∙ (λ i. if nat_le (block * width) slot && le-ltb slot (block * width + width) after i then slot - block * width else slot)
      ∙ go (nat_le (block * width) slot)
    where
      go : (b : Bool) → (if b && false then slot - block * width else slot) ≡ slot
      go true = refl
      go false = refl

  -- a slot is in the first block, in the other block, or in neither and unchanged
  cases_exchange : (slot : ℕ) → ((slot < width) × (exchange width block slot ≡ block * width + slot))
      ⊎ (((width ≤ slot) × (block * width ≤ slot) × (slot < block * width + width) × (exchange width block slot ≡ slot - block * width)) ⊎ ((exchange width block slot) ≡ slot))
  cases_exchange slot = ⊎_elim (λ l. inl (l, exchange_of_first_block slot l)) rest (cases_lt slot width)
    where
      rest : width ≤ slot → ((slot < width) × (exchange width block slot ≡ block * width + slot))
          ⊎ (((width ≤ slot) × (block * width ≤ slot) × (slot < block * width + width) × (exchange width block slot ≡ slot - block * width)) ⊎ ((exchange width block slot) ≡ slot))
      rest high =
          ⊎_elim (λ before. inr (inr (exchange_outside_blocks slot high (inl before)))) (λ from. ⊎_elim (λ to. inr (inl (high, from, to, exchange_of_block slot high from to))) (λ after. inr (inr (exchange_outside_blocks slot high (inr after)))) (cases_lt slot (block * width + width))) (cases_lt slot (block * width))

  -- a slot of the first block and that at its place in the other
  pub exchange_of_slot_in_block : (slot : ℕ) → slot < width → exchange width block (block * width + slot) ≡ slot
  exchange_of_slot_in_block slot low = ⊎_elim same apart (block_behind width block)
    where
      same : block * width ≡ 0 → exchange width block (block * width + slot) ≡ slot
      same none =
          let is : block * width + slot ≡ slot = omega (arith, none) in
          ap (exchange width block) is ∙ exchange_of_first_block slot low ∙ is

      apart : width ≤ block * width → exchange width block (block * width + slot) ≡ slot
      apart behind =
          exchange_of_block (block * width + slot) (omega (arith, behind)) (omega arith) (omega (arith, low)) ∙ omega arith

  pub exchange_twice : (slot : ℕ) → exchange width block (exchange width block slot) ≡ slot
  exchange_twice slot = go (cases_exchange slot)
    where
      go : ((slot < width) × (exchange width block slot ≡ block * width + slot))
          ⊎ (((width ≤ slot) × (block * width ≤ slot) × (slot < block * width + width) × (exchange width block slot ≡ slot - block * width)) ⊎ ((exchange width block slot) ≡ slot))
          → exchange width block (exchange width block slot) ≡ slot
      go (inl (low, is)) = ap (exchange width block) is ∙ exchange_of_slot_in_block slot low
      go (inr (inl (high, from, to, is))) =
          ap (exchange width block) is ∙ exchange_of_first_block (slot - block * width) (omega (arith, from, to)) ∙ omega (arith, from)
      go (inr (inr is)) = ap (exchange width block) is ∙ is

  -- below a bound that the block keeps, the slots are exchanged with one another
  pub exchange_below : (bound : ℕ) → block * width + width ≤ bound → (slot : ℕ) → slot < bound → exchange width block slot < bound
  exchange_below bound fits slot low = go (cases_exchange slot)
    where
      go : ((slot < width) × (exchange width block slot ≡ block * width + slot))
          ⊎ (((width ≤ slot) × (block * width ≤ slot) × (slot < block * width + width) × (exchange width block slot ≡ slot - block * width)) ⊎ ((exchange width block slot) ≡ slot))
          → exchange width block slot < bound
      go (inl (first, is)) = omega (arith, first, is, fits)
      go (inr (inl (high, from, to, is))) = omega (arith, is, low)
      go (inr (inr is)) = omega (arith, is, low)

  pub exchanges_undone : IsUndoneBy (exchanges width block) (exchanges width block)
  exchanges_undone = record {
    back = λ rank slot. exchange_twice slot;
    forth = λ rank slot. exchange_twice slot;
  }

  -- the block does not change the number of contributions held at the start
  pub stored_exchanged : (what : Collective) (ranks : ℕ) → block * width + width ≤ 2 ^ 32 → stored ranks (initial_in what width block ranks) ≡ stored ranks (initial what ranks)
  stored_exchanged what ranks fits =
      stored_permuted (exchanges width block) (exchanges width block) exchanges_undone (λ rank slot low. exchange_below (2 ^ 32) fits slot low) (λ rank slot low. exchange_below (2 ^ 32) fits slot low) ranks (initial what ranks)

-- exchanging the first block with itself changes nothing
pub exchange_with_first_block : (width slot : ℕ) → exchange width 0 slot ≡ slot
exchange_with_first_block width slot = go (cases_exchange width 0 slot)
  where
    go : ((slot < width) × (exchange width 0 slot ≡ 0 * width + slot))
        ⊎ (((width ≤ slot) × (0 * width ≤ slot) × (slot < 0 * width + width) × (exchange width 0 slot ≡ slot - 0 * width)) ⊎ ((exchange width 0 slot) ≡ slot))
        → exchange width 0 slot ≡ slot
    go (inl (low, is)) = let none = zero-mul width in omega (arith, is, none)
    go (inr (inl (high, from, to, is))) = let none = zero-mul width in omega (arith, is, none)
    go (inr (inr is)) = is

-- so there a collective uses its usual slots
pub initial_in_first_block : (what : Collective) (ranks : ℕ) → initial_in what 0 0 ranks ≡ initial what ranks
initial_in_first_block what ranks = λ i r k. initial what ranks r (exchange_with_first_block 0 k i)

pub wanted_in_first_block : (what : Collective) (ranks : ℕ) → wanted_in what 0 0 ranks ≡ wanted what ranks
wanted_in_first_block what ranks = λ i r k. wanted what ranks r (exchange_with_first_block 0 k i)
