-- The machine given by words of a form, word by word.
use Rattle.std.proofs.Common.{ℕ, Bool, true, false, List, [], ◌∷◌, ◌≡◌, ◌+◌, Some, None, Ok, Err, Result, refl, ap, if◌then◌else◌}
use Rattle.std.specs.Prelude.{bytes_eq}
use Rattle.std.specs.Str.Parse.{digits_value}
use Rattle.sim_classes.specs.declared.fault.MachineFault.{MachineFault}
use Rattle.sim_classes.specs.declared.fault.MachineFault.TheVariants.{Syntax}
use Rattle.sim_classes.specs.Machine.{MachineModel}
use Rattle.sim_classes.specs.Form.{Form, Fixed, Value, End, Test, read_by_form, or_fault}
use Rattle.goal_base.specs.Numerals.{is_numeral}

pub fixed_next : (word w : List ℕ) (ws : List (List ℕ)) (place : ℕ) (rest : Form) → bytes_eq w word ≡ true → read_by_form (Fixed word rest) place (w ∷ ws) ≡ read_by_form rest (place + 1) ws
unfolding read_by_form
fixed_next word w ws place rest e = rw e refl

pub fixed_other : (word w : List ℕ) (ws : List (List ℕ)) (place : ℕ) (rest : Form) → bytes_eq w word ≡ false → read_by_form (Fixed word rest) place (w ∷ ws) ≡ Err (Syntax place)
unfolding read_by_form
fixed_other word w ws place rest e = rw e refl

pub fixed_end : (word : List ℕ) (place : ℕ) (rest : Form) → read_by_form (Fixed word rest) place [] ≡ Err (Syntax place)
unfolding read_by_form
fixed_end word place rest = refl

pub value_end : (test : Test) (rest : ℕ → Form) (place : ℕ) → read_by_form (Value test rest) place [] ≡ Err (Syntax place)
unfolding read_by_form
value_end test rest place = refl

pub value_other : (test : Test) (rest : ℕ → Form) (place : ℕ) (w : List ℕ) (ws : List (List ℕ)) → None ≡ (if is_numeral w then Some (digits_value 10 w) else None) → read_by_form (Value test rest) place (w ∷ ws) ≡ Err (Syntax place)
unfolding read_by_form
value_other test rest place w ws e = go (is_numeral w) e
  where
    go : (b : Bool) → None ≡ (if b then Some (digits_value 10 w) else None) → (if b then or_fault (test (digits_value 10 w)) place (read_by_form (rest (digits_value 10 w)) (place + 1) ws) else Err (Syntax place)) ≡ Err (Syntax place)
    go true e = cc
    go false e = refl

pub value_next : (test : Test) (rest : ℕ → Form) (place : ℕ) (w : List ℕ) (ws : List (List ℕ)) (n : ℕ) → Some n ≡ (if is_numeral w then Some (digits_value 10 w) else None) → read_by_form (Value test rest) place (w ∷ ws) ≡ or_fault (test n) place (read_by_form (rest n) (place + 1) ws)
unfolding read_by_form
value_next test rest place w ws n e = go (is_numeral w) e
  where
    go : (b : Bool) → Some n ≡ (if b then Some (digits_value 10 w) else None) → (if b then or_fault (test (digits_value 10 w)) place (read_by_form (rest (digits_value 10 w)) (place + 1) ws) else Err (Syntax place)) ≡ or_fault (test n) place (read_by_form (rest n) (place + 1) ws)
    go true e = ap (λ (k : ℕ). or_fault (test k) place (read_by_form (rest k) (place + 1) ws)) (cc e)
    go false e = cc

pub end_other : (m : MachineModel) (place : ℕ) (w : List ℕ) (ws : List (List ℕ)) → read_by_form (End m) place (w ∷ ws) ≡ Err (Syntax place)
unfolding read_by_form
end_other m place w ws = refl

pub syntax_faults_at_equal_places : {a b : ℕ} → a ≡ b → ◌≡◌ {A = Result MachineModel MachineFault} (Err (Syntax a)) (Err (Syntax b))
syntax_faults_at_equal_places e = ap (λ (place : ℕ). Err (Syntax place)) e

pub end_of_words_gives_machine : (m : MachineModel) (place : ℕ) → read_by_form (End m) place [] ≡ Ok m
unfolding read_by_form
end_of_words_gives_machine m place = refl
