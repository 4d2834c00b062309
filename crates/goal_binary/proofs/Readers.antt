-- Readers: the value of one is in the bytes that it takes, and a fault is where the bytes before it can still continue.
use Rattle.std.proofs.Common.{◌≡◌, ℕ, ◌+◌, ◌-◌, ◌<◌, ◌≤◌, Bool, cond, ltb, List, [], ◌++◌, length, take, drop, Ok, Err, refl, sym, ap, subst, ◌∙◌, append_assoc, arith, inl, inr}
use Rattle.std.proofs.lemmas.Bool.{cases_lt}
use Rattle.std.proofs.lemmas.List.{append-nil, take-take, take-append-le, length-append, length-take, get_or_append_left, get_or-append_right}
use Rattle.goal_binary.specs.declared.fault.FileFault.{FileFault}
use Rattle.goal_binary.specs.declared.fault.FileFault.TheVariants.{Short, Magic, Version, Field, Extra, Plan, NoMemory}
use Rattle.goal_binary.specs.declared.layout.Layout.{Layout}
use Rattle.goal_binary.specs.Fields.{Read, ◌>>=◌, allow}
use Rattle.goal_binary.specs.Laws.{IsWidth}
use Rattle.goal_binary.proofs.Steps.{IsBytes, bind_ok, ok_injective}

abbrev pub Reader : Type 0 → Type 0
Reader A = List ℕ → ℕ → Read A

-- one reader after another
unfoldable pub then : {A B : Type 0} → Reader A → (A → Reader B) → Reader B
then P Q bytes at = P bytes at >>= λ x. Q x.0 bytes x.1

-- nothing is read
unfoldable pub give : {A : Type 0} → A → Reader A
give x bytes at = Ok (x, at)

-- the bytes have a continuation with which the reader succeeds and reads all of them
pub record Completed {A : Type 0} (P : Reader A) (at : ℕ) (front : List ℕ) : Type 0 where
  pub tail : List ℕ
  pub fits : IsBytes tail
  pub value : A
  pub is : P (front ++ tail) at ≡ Ok (value, length (front ++ tail))

-- these bytes end in the field at the place, or all bytes that have the field are at fault there
abbrev pub Halts : {A : Type 0} → Reader A → List ℕ → (at place width : ℕ) → FileFault → Type 0
Halts P bytes at place width (Short n) = (n ≡ length bytes) × (n < place + width)
Halts P bytes at place width (Field p) =
    (p ≡ place) × (place + width ≤ length bytes) × ((other : List ℕ) → take (place + width) other ≡ take (place + width) bytes → P other at ≡ Err (Field p))
Halts P bytes at place width _ = ⊥

-- the field at which reading ends, after bytes that have a continuation
pub record ReadStop {A : Type 0} (l : Layout) (P : Reader A) (bytes : List ℕ) (at : ℕ) (fault : FileFault) : Type 0 where
  pub place : ℕ
  pub width : ℕ
  pub from : at ≤ place
  pub within : place ≤ length bytes
  pub is_width : IsWidth l width
  pub done : Completed P at (take place bytes)
  pub how : Halts P bytes at place width fault

-- what a reader does at each place
pub record Reads {A : Type 0} (l : Layout) (V : A → Type 0) (P : Reader A) : Type 0 where
  pub inside : (bytes : List ℕ) (at : ℕ) (x : A) (after : ℕ) → at ≤ length bytes → P bytes at ≡ Ok (x, after) → (at ≤ after) × (after ≤ length bytes) × V x
  pub same : (bytes other : List ℕ) (at : ℕ) (x : A) (after : ℕ) → at ≤ length bytes → P bytes at ≡ Ok (x, after) → take after other ≡ take after bytes → P other at ≡ Ok (x, after)
  pub starts : (front : List ℕ) → Completed P (length front) front
  pub stops : (bytes : List ℕ) (at : ℕ) (fault : FileFault) → at ≤ length bytes → P bytes at ≡ Err fault → ReadStop l P bytes at fault

pub take-shorter : (m n : ℕ) (xs ys : List ℕ) → m ≤ n → take n xs ≡ take n ys → take m xs ≡ take m ys
take-shorter m n xs ys le same = sym (take-take m n xs le) ∙ ap (take m) same ∙ take-take m n ys le

pub take-front : (m n : ℕ) (xs tail : List ℕ) → m ≤ n → n ≤ length xs → take m (take n xs ++ tail) ≡ take m xs
take-front m n xs tail le within =
    take-append-le m (take n xs) tail (omega (arith, length-take n xs)) ∙ take-take m n xs le

pub IsBytes-append : (xs ys : List ℕ) → IsBytes xs → IsBytes ys → IsBytes (xs ++ ys)
IsBytes-append xs ys f g i =
    elim (cases_lt i (length xs)) [
      | inl lt ↦ rw (get_or_append_left xs ys 0 i lt) (f i)
      | inr le ↦ rw (get_or-append_right xs ys (length xs) i 0 refl le) (g (i - length xs))
    ]

abbrev err_of : (A : Type 0) → FileFault → Read A
err_of A d = Err d

bind_of_ok : {A B : Type 0} (r : Read A) (f : A × ℕ → Read B) (x : A × ℕ) → r ≡ Ok x → (r >>= f) ≡ f x
bind_of_ok r f x e = ap (λ q. q >>= f) e

bind_err : {A B : Type 0} (r : Read A) (f : A × ℕ → Read B) (d : FileFault) → r ≡ Err d → (r >>= f) ≡ Err d
bind_err r f d e = ap (λ q. q >>= f) e

err_of_injective : {A : Type 0} (d f : FileFault) → err_of A d ≡ err_of A f → d ≡ f
err_of_injective d f e = cc

Halts-map : {A B : Type 0} (P : Reader A) (R : Reader B) (bytes : List ℕ) (at from place width : ℕ) (fault : FileFault) → Halts P bytes at place width fault
    → ((other : List ℕ) → take (place + width) other ≡ take (place + width) bytes → place + width ≤ length bytes → P other at ≡ Err fault → R other from ≡ Err fault) → Halts R bytes from place width fault
Halts-map P R bytes at from place width (Short n) h f = h
Halts-map P R bytes at from place width (Field p) h f = (h.0, h.1, λ other same. f other same h.1 (h.2 other same))
Halts-map P R bytes at from place width Magic h f = h
Halts-map P R bytes at from place width (Version found) h f = h
Halts-map P R bytes at from place width (Extra p) h f = h
Halts-map P R bytes at from place width (Plan rule) h f = h
Halts-map P R bytes at from place width NoMemory h f = h

module _ {l : Layout} {A : Type 0} {B : Type 0} {V : A → Type 0} {W : B → Type 0} {P : Reader A} {Q : A → Reader B} (first : Reads l V P) (second : (x : A) → V x → Reads l W (Q x)) where
  -- what the first reader gives is followed by what the second gives
  completed_then : (at : ℕ) (front : List ℕ) → at ≤ length front → Completed P at front → Completed (then P Q) at front
  unfolding then
  completed_then at front le c =
      let longer = front ++ c.tail in
      let len = length-append front c.tail in
      let v = first.inside longer at c.value (length longer) (omega (arith, len)) c.is in
      let q = (second c.value v.2).starts longer in
      let again : P (longer ++ q.tail) at ≡ Ok (c.value, length longer) = first.same longer (longer ++ q.tail) at c.value (length longer) (omega (arith, len)) c.is (take-append-le (length longer) longer q.tail (omega arith)) in
      let whole : then P Q (longer ++ q.tail) at ≡ Ok (q.value, length (longer ++ q.tail)) = bind_of_ok (P (longer ++ q.tail) at) (λ x. Q x.0 (longer ++ q.tail) x.1) (c.value, length longer) again ∙ q.is in
      record {
        tail = c.tail ++ q.tail;
        fits = IsBytes-append c.tail q.tail c.fits q.fits;
        value = q.value;
        is = subst (λ (bytes : List ℕ). then P Q bytes at ≡ Ok (q.value, length bytes)) (append_assoc front c.tail q.tail) whole;
      }

  then_ends_inside : (bytes : List ℕ) (at : ℕ) (y : B) (end : ℕ) → at ≤ length bytes → then P Q bytes at ≡ Ok (y, end) → (at ≤ end) × (end ≤ length bytes) × W y
  unfolding then
  then_ends_inside bytes at y end le e =
      let a = bind_ok (P bytes at) (λ x. Q x.0 bytes x.1) (y, end) e in
      let p = first.inside bytes at a.0.0 a.0.1 le a.1 in
      let q = (second a.0.0 p.2).inside bytes a.0.1 y end p.1 a.2 in
      (omega (arith, p.0, q.0), q.1, q.2)

  then_same_by_equal_prefix : (bytes other : List ℕ) (at : ℕ) (y : B) (end : ℕ) → at ≤ length bytes → then P Q bytes at ≡ Ok (y, end) → take end other ≡ take end bytes → then P Q other at ≡ Ok (y, end)
  unfolding then
  then_same_by_equal_prefix bytes other at y end le e same =
      let a = bind_ok (P bytes at) (λ x. Q x.0 bytes x.1) (y, end) e in
      let p = first.inside bytes at a.0.0 a.0.1 le a.1 in
      let q = (second a.0.0 p.2).inside bytes a.0.1 y end p.1 a.2 in
      bind_of_ok (P other at) (λ x. Q x.0 other x.1) a.0 (first.same bytes other at a.0.0 a.0.1 le a.1 (take-shorter a.0.1 end other bytes q.0 same))
      ∙ (second a.0.0 p.2).same bytes other a.0.1 y end p.1 a.2 same

  then_stops_in_first : (bytes : List ℕ) (at : ℕ) (fault : FileFault) → at ≤ length bytes → P bytes at ≡ Err fault → ReadStop l (then P Q) bytes at fault
  unfolding then
  then_stops_in_first bytes at fault le e =
      let s = first.stops bytes at fault le e in
      record {
        place = s.place;
        width = s.width;
        from = s.from;
        within = s.within;
        is_width = s.is_width;
        done = completed_then at (take s.place bytes) (omega (arith, length-take s.place bytes, s.from, s.within)) s.done;
        how = Halts-map P (then P Q) bytes at at s.place s.width fault s.how (λ other same wide stopped. bind_err (P other at) (λ x. Q x.0 other x.1) fault stopped);
      }

  then_stops_in_second : (bytes : List ℕ) (at : ℕ) (fault : FileFault) (x : A) (mid : ℕ) → at ≤ length bytes → P bytes at ≡ Ok (x, mid) → Q x bytes mid ≡ Err fault → ReadStop l (then P Q) bytes at fault
  unfolding then
  then_stops_in_second bytes at fault x mid le e f =
      let p = first.inside bytes at x mid le e in
      let s = (second x p.2).stops bytes mid fault p.1 f in
      let front = take s.place bytes ++ s.done.tail in
      let again : P front at ≡ Ok (x, mid) = first.same bytes front at x mid le e (take-front mid s.place bytes s.done.tail s.from s.within) in
      record {
        place = s.place;
        width = s.width;
        from = omega (arith, p.0, s.from);
        within = s.within;
        is_width = s.is_width;
        done = record { tail = s.done.tail; fits = s.done.fits; value = s.done.value; is = bind_of_ok (P front at) (λ y. Q y.0 front y.1) (x, mid) again ∙ s.done.is };
        how = Halts-map (Q x) (then P Q) bytes mid at s.place s.width fault s.how (λ other same wide stopped.
            bind_of_ok (P other at) (λ y. Q y.0 other y.1) (x, mid) (first.same bytes other at x mid le e (take-shorter mid (s.place + s.width) other bytes (omega (arith, s.from)) same)) ∙ stopped);
      }

  then_stops_in_either : (bytes : List ℕ) (at : ℕ) (fault : FileFault) → at ≤ length bytes → then P Q bytes at ≡ Err fault → ReadStop l (then P Q) bytes at fault
  unfolding then
  then_stops_in_either bytes at fault le e = go (P bytes at) refl e
    where
      go : (r : Read A) → P bytes at ≡ r → (r >>= λ x. Q x.0 bytes x.1) ≡ Err fault → ReadStop l (then P Q) bytes at fault
      go (Ok x) is f = then_stops_in_second bytes at fault x.0 x.1 le is f
      go (Err d) is f = let same : d ≡ fault = err_of_injective {A = B} d fault f in then_stops_in_first bytes at fault le (is ∙ ap Err same)

  pub then_reads : Reads l W (then P Q)
  then_reads = record {
    inside = then_ends_inside;
    same = then_same_by_equal_prefix;
    starts = λ front. completed_then (length front) front (omega arith) (first.starts front);
    stops = then_stops_in_either;
  }

module _ {l : Layout} {A : Type 0} {V : A → Type 0} where
  pub give_reads : (x : A) → V x → Reads l V (give x)
  unfolding give
  give_reads x v = record {
    inside = λ bytes at y after le e. let is = ok_injective (x, at) (y, after) e in
        (omega (arith, ap (λ (p : A × ℕ). p.1) is), omega (arith, ap (λ (p : A × ℕ). p.1) is), subst V (ap (λ (p : A × ℕ). p.0) is) v);
    same = λ bytes other at y after le e same. e;
    starts = λ front. record { tail = []; fits = λ i. omega arith; value = x; is = ap (λ (bytes : List ℕ). Ok (x, length bytes)) (sym (append-nil front)) };
    stops = λ bytes at fault le e. absurd cc;
  }

  pub reads_as : (P R : Reader A) → ((bytes : List ℕ) (at : ℕ) → R bytes at ≡ P bytes at) → Reads l V P → Reads l V R
  reads_as P R is reads = record {
    inside = λ bytes at x after le e. reads.inside bytes at x after le (sym (is bytes at) ∙ e);
    same = λ bytes other at x after le e same. is other at ∙ reads.same bytes other at x after le (sym (is bytes at) ∙ e) same;
    starts = λ front. let c = reads.starts front in record { tail = c.tail; fits = c.fits; value = c.value; is = is (front ++ c.tail) (length front) ∙ c.is };
    stops = λ bytes at fault le e.
        let s = reads.stops bytes at fault le (sym (is bytes at) ∙ e) in
        record {
          place = s.place;
          width = s.width;
          from = s.from;
          within = s.within;
          is_width = s.is_width;
          done = record { tail = s.done.tail; fits = s.done.fits; value = s.done.value; is = is (take s.place bytes ++ s.done.tail) at ∙ s.done.is };
          how = Halts-map P R bytes at at s.place s.width fault s.how (λ other same wide stopped. is other at ∙ stopped);
        };
  }

-- the same reader, with a weaker statement
pub reads_weaker : {l : Layout} {A : Type 0} (V W : A → Type 0) (P : Reader A) → ((x : A) → V x → W x) → Reads l V P → Reads l W P
reads_weaker V W P less reads = record {
  inside = λ bytes at x after le e. let h = reads.inside bytes at x after le e in (h.0, h.1, less x h.2);
  same = reads.same;
  starts = reads.starts;
  stops = reads.stops;
}

-- a field of this number of bytes, whose value passes the test
unfoldable pub field : ℕ → (List ℕ → ℕ) → (ℕ → Bool) → Reader ℕ
field width value test bytes at =
    let n = value (take width (drop at bytes)) in
    cond (ltb (length bytes - at) width) (Err (Short (length bytes))) (allow (test n) at (n, at + width))
