-- The first fault of a text, and the tokens that a lexer has returned.
use Rattle.std.proofs.Common.{◌≡◌, ◌≢◌, ℕ, ◌+◌, ◌<◌, true, false, List, [], ◌∷◌, ◌++◌, length, take, drop, reverse, Option, Some, None, refl, sym, ap, subst, ◌∙◌, arith, append_assoc, take-append-drop, length-drop}
use Rattle.std.specs.Option.{option_or}
use Rattle.std.proofs.lemmas.List.{append-nil, reverse-append, drop-drop}
use Rattle.std.proofs.Math.Seq.{take-add}
use Rattle.goal_lexer.specs.declared.tokens.Token.{Token}
use Rattle.goal_lexer.specs.Scan.{Scanned, scan, closing, lexed}
use Rattle.goal_lexer.specs.State.{LexState}
use Rattle.goal_lexer.specs.Stands.{Stands, handed, begins_run}
use Rattle.goal_lexer.proofs.ForCallers.{scanned_of_continued, lexed_at_end}
use Rattle.goal_graph.specs.Schedule.{Plan}
use Rattle.goal_parser.specs.declared.faults.TextFault.{TextFault}
use Rattle.goal_parser.specs.declared.faults.TextFault.TheVariants.{Lex}
use Rattle.goal_parser.specs.declared.faults.TextFault.TheVariants as fault
use Rattle.goal_graph.specs.declared.fault.PlanFault.{PlanFault}
use Rattle.goal_graph.specs.declared.fault.PlanFault.TheVariants as plan
use Rattle.goal_graph.specs.Fault.{IsFault}
use Rattle.goal_parser.specs.Sentence.{state_of}
use Rattle.goal_parser.specs.Faults.{token_fault}
use Rattle.goal_parser.specs.Plans.{plans_of}
use Rattle.goal_parser.specs.Reads.{first_fault, end_fault, last_fault, text_fault, text_plans, Reading, reading, reads, plans, faulty, IsFaultOf}
use Rattle.goal_parser.specs.FaultInText.{fault_of_plans}
use Rattle.goal_parser.proofs.SlotLaws.{option_or-none}

or_assoc : {A : Type 0} (a b c : Option A) → option_or a (option_or b c) ≡ option_or (option_or a b) c
or_assoc None b c = refl
or_assoc (Some x) b c = refl

-- the faults of tokens and of more tokens
pub first_fault-append : (before xs ys : List Token) → first_fault before (xs ++ ys) ≡ option_or (first_fault before xs) (first_fault (reverse xs ++ before) ys)
unfolding first_fault
first_fault-append before [] ys = refl
first_fault-append before (x ∷ xs) ys =
    let turned : reverse (x ∷ xs) ++ before ≡ reverse xs ++ x ∷ before = ap (λ l. l ++ before) (reverse-append (x ∷ []) xs) ∙ append_assoc (reverse xs) (x ∷ []) before in
    ap (option_or (token_fault before x)) (first_fault-append (x ∷ before) xs ys)
    ∙ or_assoc (token_fault before x) (first_fault (x ∷ before) xs) (first_fault (reverse xs ++ x ∷ before) ys)
    ∙ ap (λ l. option_or (option_or (token_fault before x) (first_fault (x ∷ before) xs)) (first_fault l ys)) (sym turned)

-- another token, after tokens that pass
pub first_fault-more : (hs : List Token) (t : Token) → first_fault [] hs ≡ None → first_fault [] (hs ++ t ∷ []) ≡ token_fault (reverse hs) t
unfolding first_fault
first_fault-more hs t passed =
    first_fault-append [] hs (t ∷ [])
    ∙ ap (λ o. option_or o (first_fault (reverse hs ++ []) (t ∷ []))) passed
    ∙ option_or-none (token_fault (reverse hs ++ []) t)
    ∙ ap (λ l. token_fault l t) (append-nil (reverse hs))

pub reverse-more : (hs : List Token) (t : Token) → t ∷ reverse hs ≡ reverse (hs ++ t ∷ [])
reverse-more hs t = sym (reverse-append hs (t ∷ []))

pub first_fault-front : (hs ys : List Token) (f : TextFault) → first_fault [] hs ≡ Some f → first_fault [] (hs ++ ys) ≡ Some f
first_fault-front hs ys f h = first_fault-append [] hs ys ∙ ap (λ o. option_or o (first_fault (reverse hs ++ []) ys)) h

-- the tokens that were returned are the first ones of each text that continues this one
pub handed_front : (lexer : LexState) (text more : List ℕ) → Stands lexer text → (lexer.ends_run ≡ true → begins_run more ≡ false) → (tokens : List Token) × ((lexed (text ++ more)).0 ≡ handed lexer text ++ tokens)
handed_front lexer text [] stands apart = (
  closing lexer.place lexer.mode,
  ap (λ t. (lexed t).0) (append-nil text) ∙ ap (λ (r : List Token × Option ℕ). r.0) (lexed_at_end lexer.mode lexer.place lexer.ends_run text stands),
)
handed_front lexer text (c ∷ cs) stands apart =
    let more = c ∷ cs in
    let rest = scan lexer.mode lexer.place more in
    let last = closing (length (text ++ more)) rest.0 in (
      rest.1 ++ last,
      ap (λ (r : Scanned). r.1 ++ closing (length (text ++ more)) r.0) (scanned_of_continued lexer.mode lexer.place lexer.ends_run text more stands apart (λ h. omega arith))
          ∙ append_assoc (handed lexer text) rest.1 last,
    )

-- the fault of a text that begins with these tokens
pub fault_of_token : (whole : List ℕ) (hs ys : List Token) (t : Token) (f : TextFault) → (lexed whole).0 ≡ (hs ++ t ∷ []) ++ ys → first_fault [] hs ≡ None → token_fault (reverse hs) t ≡ Some f → text_fault whole ≡ Some f
unfolding text_fault
fault_of_token whole hs ys t f tokens passed fails =
    ap (λ o. option_or o (last_fault (lexed whole).1 (state_of (reverse (lexed whole).0)) (length whole)))
    (ap (first_fault []) tokens ∙ first_fault-front (hs ++ t ∷ []) ys f (first_fault-more hs t passed ∙ fails))

pub fault_of_lexer : (whole : List ℕ) (hs : List Token) (at : ℕ) → lexed whole ≡ (hs, Some at) → first_fault [] hs ≡ None → text_fault whole ≡ Some (Lex at)
unfolding text_fault
fault_of_lexer whole hs at is passed =
    ap (λ (r : List Token × Option ℕ). option_or (first_fault [] r.0) (last_fault r.1 (state_of (reverse r.0)) (length whole))) is
    ∙ ap (λ o. option_or o (Some (Lex at))) passed

pub fault_of_end : (whole : List ℕ) (hs : List Token) (place : ℕ) → lexed whole ≡ (hs, None) → first_fault [] hs ≡ None → length whole ≡ place → text_fault whole ≡ end_fault (state_of (reverse hs)) place
unfolding text_fault
fault_of_end whole hs place is passed long =
    ap (λ (r : List Token × Option ℕ). option_or (first_fault [] r.0) (last_fault r.1 (state_of (reverse r.0)) (length whole))) is
    ∙ ap (λ o. option_or o (end_fault (state_of (reverse hs)) (length whole))) passed
    ∙ ap (end_fault (state_of (reverse hs))) long

pub plans_of_end : (whole : List ℕ) (hs : List Token) (o : Option ℕ) → lexed whole ≡ (hs, o) → text_plans whole ≡ plans_of (reverse hs)
unfolding text_plans
plans_of_end whole hs o is = ap (λ (r : List Token × Option ℕ). plans_of (reverse r.0)) is

-- a text in three parts
pub taken_and_dropped_join : (text rest more : List ℕ) (n : ℕ) → (text ++ take n rest) ++ (drop n rest ++ more) ≡ (text ++ rest) ++ more
taken_and_dropped_join text rest more n =
    sym (append_assoc (text ++ take n rest) (drop n rest) more)
    ∙ ap (λ l. l ++ more) (append_assoc text (take n rest) (drop n rest) ∙ ap (λ l. text ++ l) (take-append-drop n rest))

-- if bytes are left, what follows them does not decide whether a run begins
pub no_run_whatever_follows : (n : ℕ) (rest more : List ℕ) → n < length rest → begins_run (drop n rest) ≡ false → begins_run (drop n rest ++ more) ≡ false
no_run_whatever_follows n rest more left apart = by (drop n rest) (omega (arith, length-drop n rest)) apart
  where
    by : (l : List ℕ) → 0 < length l → begins_run l ≡ false → begins_run (l ++ more) ≡ false
    by [] h a = absurd (omega arith)
    by (x ∷ l) h a = a

pub fault_of_last : (whole : List ℕ) (hs : List Token) (o : Option ℕ) (f : TextFault) → lexed whole ≡ (hs, o) → first_fault [] hs ≡ Some f → text_fault whole ≡ Some f
unfolding text_fault
fault_of_last whole hs o f is fails =
    ap (λ (r : List Token × Option ℕ). option_or (first_fault [] r.0) (last_fault r.1 (state_of (reverse r.0)) (length whole))) is
    ∙ ap (λ a. option_or a (last_fault o (state_of (reverse hs)) (length whole))) fails

pub take-plus : (m n : ℕ) (l : List ℕ) → take (m + n) l ≡ take m l ++ take n (drop m l)
take-plus m n l = take-add m n l

pub drop-plus : (m n : ℕ) (l : List ℕ) → drop (m + n) l ≡ drop n (drop m l)
drop-plus m n l = sym (drop-drop n m l)

-- what a text says
pub reads_fault : (text : List ℕ) (f : TextFault) → text_fault text ≡ Some f → faulty f ≡ reads text
unfolding reads
reads_fault text f is = sym (ap (λ o. reading o (text_plans text)) is)

pub reads_plans : (text : List ℕ) (ps : List Plan) → text_fault text ≡ None → ps ≡ text_plans text → reads text ≡ plans ps
unfolding reads
reads_plans text ps none are = ap (λ o. reading o (text_plans text)) none ∙ ap plans (sym are)

pub IsFaultOf-reads : (text : List ℕ) (f : TextFault) → text_fault text ≡ Some f → IsFaultOf (reads text) f
IsFaultOf-reads text f is = subst (λ (r : Reading). IsFaultOf r f) (reads_fault text f is) refl

pub IsFaultOf-faulty : (text : List ℕ) (f : TextFault) → reads text ≡ faulty f → IsFaultOf (reads text) f
IsFaultOf-faulty text f is = subst (λ (r : Reading). IsFaultOf r f) (sym is) refl

pub fault_of_plans-reads : (text : List ℕ) (ps : List Plan) (f : PlanFault) → reads text ≡ plans ps → (f ≢ plan.NoMemory → IsFault ps f)
    → fault_of_plans f ≢ fault.NoMemory → IsFaultOf (reads text) (fault_of_plans f)
fault_of_plans-reads text ps f is first memory = subst (λ (r : Reading). IsFaultOf r (fault_of_plans f)) (sym is) (by f first memory)
  where
    by : (g : PlanFault) → (g ≢ plan.NoMemory → IsFault ps g) → fault_of_plans g ≢ fault.NoMemory → IsFaultOf (plans ps) (fault_of_plans g)
    by plan.NoMemory h m = absurd (m refl)
    by (plan.Count found limit) h m = h (λ e. cc)
    by (plan.Value rank op) h m = h (λ e. cc)
    by (plan.Peer rank op) h m = h (λ e. cc)
    by (plan.DepRange rank dep) h m = h (λ e. cc)
    by (plan.NoteMisfit rank note) h m = h (λ e. cc)
    by (plan.Cycle rank op) h m = h (λ e. cc)
