use Rattle.std.proofs.Common.{ℕ, List, ◌∷◌, ◌-◌, arith, sym, ap, ◌∙◌, length, take, drop, not}
use Rattle.std.proofs.lemmas.Bool.{eqb-true, eqb-false}
use Rattle.sim_classes.specs.Left.{Left}
use Rattle.std.proofs.lemmas.List.Sums.{prefix_len-le-length}
use Rattle.sim_classes.specs.Form.{is_blank, words}
use Rattle.sim_classes.proofs.WordLemmas.{no_words_in_empty_tail, next_word_of_tail, not_zero_is_positive}
use Rattle.sim_classes.proofs.words.Words.take.Goals as goal

pub slice_bounds-tail-count : goal.slice_bounds-tail-count
slice_bounds-tail-count c = omega (arith, c.blanks.ensures, prefix_len-le-length is_blank c.self.inside.rest.now)

pub slice_bounds-tail-start : goal.slice_bounds-tail-start
slice_bounds-tail-start c = omega (arith, c.blanks.ensures, prefix_len-le-length is_blank c.self.inside.rest.now)

pub returns-then-is_empty-clause-end : goal.returns-then-is_empty-clause-end
returns-then-is_empty-clause-end c =
    ap (λ (l : Left). l.words) (sym c.self.view_is) ∙ no_words_in_empty_tail c.self.inside.rest.now c.blanks.result c.blanks.ensures (eqb-true _ 0 (sym c.is_empty.ensures ∙ c.if-is_empty.true))

pub split_at-requires : goal.split_at-requires
split_at-requires c = omega (arith, c.word_len.ensures, prefix_len-le-length (λ (b : ℕ). not (is_blank b)) (take (length c.self.inside.rest.now - c.blanks.result) (drop c.blanks.result c.self.inside.rest.now)))

pub returns-clause-word : goal.returns-clause-word
returns-clause-word c =
    let some = eqb-false _ 0 (sym c.is_empty.ensures ∙ c.if-is_empty.false) in
    ap (λ (l : Left). l.words) (sym c.self.view_is) ∙ next_word_of_tail c.self.inside.rest.now c.blanks.result c.blanks.ensures c.word_len.result c.word_len.ensures (not_zero_is_positive _ some)
    ∙ ap (λ (w : List ℕ). w ∷ words (drop c.word_len.result (take (length c.self.inside.rest.now - c.blanks.result) (drop c.blanks.result c.self.inside.rest.now)))) (sym c.split_at.ensures.front)
    ∙ ap (λ (r : List ℕ). c.split_at.result.0.now ∷ words r) (sym c.split_at.ensures.back)
