-- Receives and sends side by side.
use Rattle.std.proofs.Common.{ℕ, zero, suc, ◌<◌, ◌≡◌, List, [], ◌∷◌, length, Some, map, slice_get, slice_set, get_or, refl, arith, sym, ap}
use Rattle.std.proofs.lemmas.Option.{none-some, same_Some, get_or_from_slice_get}
use Rattle.sim_match.specs.MatchLists.{MatchList}
use Rattle.sim_match.specs.Matcher.{PatternLists, side_by_side}

pub side_by_side_length : (rs ss : List MatchList) → length rs ≡ length ss → length (side_by_side rs ss) ≡ length rs
side_by_side_length [] ss many = refl
side_by_side_length (r ∷ rs) [] many = absurd (omega (arith, many))
side_by_side_length (r ∷ rs) (s ∷ ss) many = ap suc (side_by_side_length rs ss (omega (arith, many)))

pub element_within : {X : Type 0} (xs : List X) (l : ℕ) → l < length xs → (x : X) × (slice_get xs l ≡ Some x)
element_within [] l b = absurd (omega arith)
element_within (x ∷ xs) zero b = (x, refl)
element_within (x ∷ xs) (suc l) b = element_within xs l (omega arith)

side_by_side_get : (rs ss : List MatchList) (l : ℕ) (r s : MatchList) → slice_get rs l ≡ Some r → slice_get ss l ≡ Some s → slice_get (side_by_side rs ss) l ≡ Some (record { receives = r; sends = s })
side_by_side_get [] ss l r s e f = absurd (none-some r e)
side_by_side_get (x ∷ rs) [] l r s e f = absurd (none-some s f)
side_by_side_get (x ∷ rs) (y ∷ ss) zero r s e f = λ i. Some (record { receives = same_Some x r e i; sends = same_Some y s f i })
side_by_side_get (x ∷ rs) (y ∷ ss) (suc l) r s e f = side_by_side_get rs ss l r s e f

pub side_by_side_read : (rs ss : List MatchList) (l : ℕ) (r s : MatchList) → slice_get rs l ≡ Some r → slice_get ss l ≡ Some s → record { receives = r; sends = s } ≡ get_or (side_by_side rs ss) l (record { receives = r; sends = s })
side_by_side_read rs ss l r s e f =
    sym (get_or_from_slice_get (side_by_side rs ss) l (record { receives = r; sends = s }) (record { receives = r; sends = s }) (side_by_side_get rs ss l r s e f))

pub side_by_side_set : (rs ss : List MatchList) (l : ℕ) (r s : MatchList) → side_by_side (slice_set rs l r) (slice_set ss l s) ≡ slice_set (side_by_side rs ss) l (record { receives = r; sends = s })
side_by_side_set [] ss l r s = refl
side_by_side_set (x ∷ rs) [] zero r s = refl
side_by_side_set (x ∷ rs) [] (suc l) r s = refl
side_by_side_set (x ∷ rs) (y ∷ ss) zero r s = refl
side_by_side_set (x ∷ rs) (y ∷ ss) (suc l) r s =
    ap (λ (ws : List PatternLists). record { receives = x; sends = y } ∷ ws) (side_by_side_set rs ss l r s)

pub side_by_side_map : {X : Type 0} (f g : X → MatchList) (xs : List X) → side_by_side (map f xs) (map g xs) ≡ map (λ x. record { receives = f x; sends = g x }) xs
side_by_side_map f g [] = refl
side_by_side_map f g (x ∷ xs) = ap (λ (ws : List PatternLists). record { receives = f x; sends = g x } ∷ ws) (side_by_side_map f g xs)

-- one side of a list changes
pub side_by_side_receives_set : (rs ss : List MatchList) (l : ℕ) (r s : MatchList) → slice_get ss l ≡ Some s → side_by_side (slice_set rs l r) ss ≡ slice_set (side_by_side rs ss) l (record { receives = r; sends = s })
side_by_side_receives_set [] ss l r s e = refl
side_by_side_receives_set (x ∷ rs) [] zero r s e = refl
side_by_side_receives_set (x ∷ rs) [] (suc l) r s e = refl
side_by_side_receives_set (x ∷ rs) (y ∷ ss) zero r s e =
    ap (λ (z : MatchList). record { receives = r; sends = z } ∷ side_by_side rs ss) (same_Some y s e)
side_by_side_receives_set (x ∷ rs) (y ∷ ss) (suc l) r s e =
    ap (λ (ws : List PatternLists). record { receives = x; sends = y } ∷ ws) (side_by_side_receives_set rs ss l r s e)

pub side_by_side_sends_set : (rs ss : List MatchList) (l : ℕ) (r s : MatchList) → slice_get rs l ≡ Some r → side_by_side rs (slice_set ss l s) ≡ slice_set (side_by_side rs ss) l (record { receives = r; sends = s })
side_by_side_sends_set [] ss l r s e = refl
side_by_side_sends_set (x ∷ rs) [] zero r s e = refl
side_by_side_sends_set (x ∷ rs) [] (suc l) r s e = refl
side_by_side_sends_set (x ∷ rs) (y ∷ ss) zero r s e =
    ap (λ (z : MatchList). record { receives = z; sends = s } ∷ side_by_side rs ss) (same_Some x r e)
side_by_side_sends_set (x ∷ rs) (y ∷ ss) (suc l) r s e =
    ap (λ (ws : List PatternLists). record { receives = x; sends = y } ∷ ws) (side_by_side_sends_set rs ss l r s e)
