-- How many moments an operation waits for and its partner, as a rank and a number.
use Rattle.std.specs.Prelude.{ℕ, ◌≡◌, ◌==◌, Bool, true, false, Option, Some, None, if◌then◌else◌}
use Rattle.std.proofs.Common.{refl, sym}
use Rattle.std.proofs.lemmas.Bool.{eqb-true}
use Rattle.goal_graph.specs.declared.action.OpId.{OpId}

-- how many of the moments that it needs are not known, and the operation that it is paired with, once it is
pub record Linked : Type 0 where
  pub unmet : ℕ
  pub partner : Option OpId

-- the rank that no operation has: the greatest number of 32 bits
abbrev pub no_rank : ℕ
no_rank = 4294967295

abbrev pub rank_in : Option OpId → ℕ
rank_in None = no_rank
rank_in (Some x) = x.rank

abbrev pub op_in : ℕ → Option OpId → ℕ
op_in unmet None = unmet
op_in unmet (Some x) = x.op

-- what the two numbers represent, and back
abbrev pub linked : ℕ → ℕ → Linked
linked rank op =
    if rank == no_rank
    then record { unmet = op; partner = None }
    else record { unmet = 0; partner = Some (record { rank = rank; op = op }) }

abbrev pub rank_of : Linked → ℕ
rank_of l = rank_in l.partner

abbrev pub op_of : Linked → ℕ
op_of l = op_in l.unmet l.partner

pub rank_of_linked : (rank op : ℕ) → rank_of (linked rank op) ≡ rank
rank_of_linked rank op = go (rank == no_rank) refl
  where
    go : (b : Bool) → (rank == no_rank) ≡ b → rank_of (if b then record { unmet = op; partner = None } else record { unmet = 0; partner = Some (record { rank = rank; op = op }) }) ≡ rank
    go true e = sym (eqb-true rank no_rank e)
    go false e = refl

pub op_of_linked : (rank op : ℕ) → op_of (linked rank op) ≡ op
op_of_linked rank op = go (rank == no_rank)
  where
    go : (b : Bool) → op_of (if b then record { unmet = op; partner = None } else record { unmet = 0; partner = Some (record { rank = rank; op = op }) }) ≡ op
    go true = refl
    go false = refl
