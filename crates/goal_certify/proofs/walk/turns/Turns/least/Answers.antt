use Rattle.std.proofs.Common.{ℕ, ◌≡◌, ◌<◌, true, nat_lt, List, Option, length, get_or, sym, ap, ◌∙◌, subst, arith}
use Rattle.sim_queue.specs.Map.{IsEmptyMap, IsLeast}
use Rattle.goal_certify.specs.Turns.{is_on}
use Rattle.goal_certify.proofs.Turns.{word_inside, empty_map_if_heads_zero, is_least}
use Rattle.goal_certify.proofs.walk.turns.Turns.least.Goals as goal

pub lowest-word-requires : goal.lowest-word-requires
lowest-word-requires c =
    let some = subst (λ (ws : List ℕ). 0 < get_or ws c.in-Some.at 0) (c.deref.ensures.value ∙ sym c.deref-2.ensures.value) c.in-Some.ensures.some in
    let within : c.in-Some.at < length c.deref-2.result.now = word_inside c.deref-2.result.now c.in-Some.at some in
    record {
      within = within;
      few = omega (arith, within, ap length c.deref-2.ensures.value, c.self.invariant.heads_few);
      some = some;
    }

pub lowest-place-requires : goal.lowest-place-requires
lowest-place-requires c =
    let on : is_on c.self.inside.heads.items c.lowest-word.result ≡ true = sym (ap (λ ws. is_on ws c.lowest-word.result) c.deref-2.ensures.value) ∙ c.lowest-word.ensures.on in
    let some = subst (λ (ws : List ℕ). 0 < get_or ws c.lowest-word.result 0) (sym c.deref-3.ensures.value) (c.self.invariant.marks c.lowest-word.result on) in
    let within : c.lowest-word.result < length c.deref-3.result.now = word_inside c.deref-3.result.now c.lowest-word.result some in
    record {
      within = within;
      few = omega (arith, within, ap length c.deref-3.ensures.value, c.self.invariant.few);
      some = some;
    }

pub overflow_cast-result : goal.overflow_cast-result
overflow_cast-result c =
    let on : is_on c.self.inside.words.items c.lowest-place.result ≡ true = sym (ap (λ ws. is_on ws c.lowest-place.result) c.deref-3.ensures.value) ∙ c.lowest-place.ensures.on in
    omega (arith, c.self.invariant.low c.lowest-place.result on, c.self.invariant.fits)

pub returns-in_default-clause-none : goal.returns-in_default-clause-none
returns-in_default-clause-none c =
    subst IsEmptyMap c.self.view_is (empty_map_if_heads_zero c.self.inside.words.items c.self.inside.heads.items c.self.inside.count c.self.invariant (λ a. sym (ap (λ ws. get_or ws a 0) c.deref.ensures.value) ∙ c.in_default.ensures.none a))

pub returns : goal.returns
returns c =
    let on : is_on c.self.inside.words.items c.lowest-place.result ≡ true = sym (ap (λ ws. is_on ws c.lowest-place.result) c.deref-3.ensures.value) ∙ c.lowest-place.ensures.on in
    record {
      none = tt;
      least = subst (λ (ks : List (Option ℕ)). IsLeast nat_lt ks c.lowest-place.result c.lowest-place.result) c.self.view_is (is_least c.self.inside.words.items c.self.inside.heads.items c.self.inside.count c.self.invariant c.in-Some.at c.lowest-word.result c.lowest-place.result (λ a below. sym (ap (λ ws. get_or ws a 0) c.deref.ensures.value) ∙ c.in-Some.ensures.first a below) c.lowest-word.ensures.of_word (λ j here low. sym (ap (λ ws. is_on ws j) c.deref-2.ensures.value) ∙ c.lowest-word.ensures.lowest j here low) on c.lowest-place.ensures.of_word (λ j here low. sym (ap (λ ws. is_on ws j) c.deref-3.ensures.value) ∙ c.lowest-place.ensures.lowest j here low));
    }
