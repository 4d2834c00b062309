use Rattle.std.proofs.Common.{ℕ, ◌≡◌, ◌-◌, take, vec_len, ◌+◌, ◌*◌, List, ◌++◌, replicate, ap, ◌∙◌, arith}
use Rattle.std.proofs.lemmas.List.{take_all}
use Rattle.goal_certify.specs.Rows.{has}
use Rattle.goal_certify.proofs.Rows.{has_more_zeros}
use Rattle.goal_certify.proofs.races.rows.make_room.Goals as goal

pub returns-in_ok-resize-clause-same : goal.returns-in_ok-resize-clause-same
returns-in_ok-resize-clause-same c r k =
    let old = c.args.rows.now.items in
    let n = 32 * c.args.row + 32 in
    let more = replicate {A = ℕ} (n - vec_len c.args.rows.now) 0 in
    let all : take n old ≡ old = take_all n old (omega arith) in
    ap (λ (words : List ℕ). has words r k) (c.in_ok-resize.ensures.items ∙ ap (λ (words : List ℕ). words ++ more) all)
    ∙ has_more_zeros old (n - vec_len c.args.rows.now) r k
