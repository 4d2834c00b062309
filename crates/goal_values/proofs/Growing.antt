-- Payloads are unchanged when sums are appended.
use Rattle.std.proofs.Common.{◌≡◌, List, [], ◌∷◌, ◌++◌, length, map, All, refl, sym, ap, ap₂, ◌∙◌, arith, append-nil, append_assoc, length-append}
use Rattle.std.proofs.lemmas.List.Elements.{All-head, All-tail}
use Rattle.goal_blocks.specs.Values.{Value}
use Rattle.goal_values.specs.declared.sums.Term.{Term}
use Rattle.goal_values.specs.declared.values.TermPayload.{TermPayload}
use Rattle.goal_values.specs.Sums.{meaning, IsBelow, HasGrown}
use Rattle.goal_values.specs.Summed.{payload_values, IsPayload}
use Rattle.goal_values.proofs.SumValues.{meaning_stays, is_below_larger_bound}

pub has_grown_reflexive : (sums : List Value) → HasGrown sums sums
has_grown_reflexive sums = ([], sym (append-nil sums))

pub has_grown_transitive : (old now new : List Value) → HasGrown old now → HasGrown now new → HasGrown old new
has_grown_transitive old now new a b =
    (a.0 ++ b.0, b.1 ∙ ap (λ (vs : List Value). vs ++ b.0) a.1 ∙ append_assoc old a.0 b.0)

meanings_stay : (sums more : List Value) (ts : List Term) → All (IsBelow (length sums)) ts → map (meaning (sums ++ more)) ts ≡ map (meaning sums) ts
meanings_stay sums more [] below = refl
meanings_stay sums more (t ∷ ts) below =
    ap₂ (λ (v : Value) (vs : List Value). v ∷ vs) (meaning_stays sums more t (All-head (IsBelow (length sums)) t ts below)) (meanings_stay sums more ts (All-tail (IsBelow (length sums)) t ts below))

-- a value of a payload has the same meaning, and still refers to existing sums
pub payload_stays : (old new : List Value) → HasGrown old new → (l : TermPayload) → IsPayload old l → (payload_values new l ≡ payload_values old l) × IsPayload new l
payload_stays old new grown l payload =
    (ap (λ (vs : List Value). map (meaning vs) l.terms.items) grown.1 ∙ meanings_stay old grown.0 l.terms.items payload, λ k d inside. is_below_larger_bound (length old) (length new) _ (omega (arith, ap length grown.1, length-append old grown.0)) (payload k d inside))
