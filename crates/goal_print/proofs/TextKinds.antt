-- The kinds of the tokens of the canonical text.
use Rattle.std.proofs.Common.{◌≡◌, ℕ, ◌+◌, ◌^◌, ◌<◌, ◌≤◌, false, List, [], ◌∷◌, ◌++◌, length, Option, Some, None, codes, refl, sym, subst, ◌∙◌, arith, append_assoc}
use Rattle.std.specs.List.{AllByRecursion, flat_map}
use Rattle.goal_lexer.specs.declared.tokens.TokenKind.{TokenKind}
use Rattle.goal_lexer.specs.declared.tokens.TokenKind.TheVariants as token
use Rattle.goal_lexer.specs.Stands.{begins_run}
use Rattle.goal_graph.specs.declared.plan.Op.{Op}
use Rattle.goal_graph.specs.declared.plan.Kind.{Kind}
use Rattle.goal_graph.specs.declared.plan.Kind.TheVariants.{Calc, Send, Recv}
use Rattle.goal_graph.specs.declared.plan.Dep.{Dep}
use Rattle.goal_graph.specs.declared.plan.When.{When}
use Rattle.goal_graph.specs.declared.plan.When.TheVariants.{AfterEnd, AfterStart}
use Rattle.goal_graph.specs.declared.plan.Note.{Note}
use Rattle.goal_graph.specs.declared.plan.Note.TheVariants.{Moves, Adds}
use Rattle.goal_graph.specs.Schedule.{Plan}
use Rattle.goal_print.specs.Canonical.{line_feed, label, number_or_any, action, op_line, op_lines, verb, dep_line, note_line, block, unless_empty, blocks, canonical}
use Rattle.goal_print.proofs.Fits.{WildFits, KindFits, OpFits, DepFits, NoteFits, PlanFits}
use Rattle.goal_print.proofs.Lexes.{Lexes, lexes_empty, lexes_space, lexes_line_feed, lexes_colon, lexes_open, lexes_close, lexes_reserved, lexes_label, lexes_number, lexes_size}

abbrev pub wild_kind : Option ℕ → TokenKind
wild_kind None = token.Any
wild_kind (Some n) = token.Number n

-- the kinds of an action, and those after it
abbrev pub action_kinds : Kind → ℕ → ℕ → List TokenKind → List TokenKind
action_kinds (Calc nanos) cpu nic more = token.Calc ∷ token.Number nanos ∷ token.Cpu ∷ token.Number cpu ∷ more
action_kinds (Send bytes to tag) cpu nic more =
    token.Send ∷ token.Size bytes ∷ token.To ∷ token.Number to ∷ token.Tag ∷ token.Number tag
    ∷ token.Cpu ∷ token.Number cpu ∷ token.Nic ∷ token.Number nic ∷ more
action_kinds (Recv bytes from tag) cpu nic more =
    token.Recv ∷ token.Size bytes ∷ token.From ∷ wild_kind from ∷ token.Tag ∷ wild_kind tag
    ∷ token.Cpu ∷ token.Number cpu ∷ token.Nic ∷ token.Number nic ∷ more

abbrev pub op_kinds : ℕ → Op → List TokenKind → List TokenKind
op_kinds number o more = token.Label (label number) ∷ token.Colon ∷ action_kinds o.kind o.cpu o.nic more

abbrev pub ops_kinds : ℕ → List Op → List TokenKind → List TokenKind
ops_kinds number [] more = more
ops_kinds number (o ∷ os) more = op_kinds number o (ops_kinds (number + 1) os more)

abbrev pub verb_kind : When → TokenKind
verb_kind AfterEnd = token.Requires
verb_kind AfterStart = token.Irequires

abbrev pub deps_kinds : List Dep → List TokenKind → List TokenKind
deps_kinds [] more = more
deps_kinds (d ∷ ds) more = token.Label (label d.later) ∷ verb_kind d.when ∷ token.Label (label d.earlier) ∷ deps_kinds ds more

abbrev pub note_kinds : Note → List TokenKind → List TokenKind
note_kinds (Moves op lo hi) more = token.Label (label op) ∷ token.Moves ∷ token.Number lo ∷ token.To ∷ token.Number hi ∷ more
note_kinds (Adds op from to) more = token.Label (label op) ∷ token.Adds ∷ token.Number from ∷ token.To ∷ token.Number to ∷ more

abbrev pub notes_kinds : List Note → List TokenKind → List TokenKind
notes_kinds [] more = more
notes_kinds (n ∷ ns) more = note_kinds n (notes_kinds ns more)

abbrev pub block_kinds : ℕ → Plan → List TokenKind → List TokenKind
block_kinds rank p more =
    token.Rank ∷ token.Number rank ∷ token.Open ∷ ops_kinds 0 p.ops (deps_kinds p.deps (notes_kinds p.notes (token.Close ∷ more)))

abbrev pub unless_no_ops : List Op → List TokenKind → List TokenKind → List TokenKind
unless_no_ops [] kinds more = more
unless_no_ops (o ∷ os) kinds more = kinds

abbrev pub blocks_kinds : ℕ → List Plan → List TokenKind
blocks_kinds rank [] = []
blocks_kinds rank (p ∷ ps) = unless_no_ops p.ops (block_kinds rank p (blocks_kinds (rank + 1) ps)) (blocks_kinds (rank + 1) ps)

abbrev pub canonical_kinds : List Plan → List TokenKind
canonical_kinds plans = token.NumRanks ∷ token.Number (length plans) ∷ blocks_kinds 0 plans

-- the line of a dependency, with what follows it
dep_line_reassociated : (later verb earlier text : List ℕ) → (later ++ verb ++ earlier ++ line_feed) ++ text ≡ later ++ (verb ++ (earlier ++ 10 ∷ text))
dep_line_reassociated later verb earlier text =
    append_assoc (later ++ verb ++ earlier) line_feed text
    ∙ append_assoc (later ++ verb) earlier (10 ∷ text)
    ∙ append_assoc later verb (earlier ++ 10 ∷ text)

-- each line at the front of a text

lexes_wild : (o : Option ℕ) {text : List ℕ} {kinds : List TokenKind} → WildFits o → begins_run text ≡ false
    → Lexes text kinds → Lexes (number_or_any o ++ text) (wild_kind o ∷ kinds)
lexes_wild None fits apart rest = lexes_reserved (codes "any") token.Any refl refl apart rest
lexes_wild (Some n) fits apart rest = lexes_number n (omega arith) apart rest

lexes_action : (kind : Kind) (cpu nic : ℕ) {text : List ℕ} {kinds : List TokenKind} → KindFits kind nic → cpu ≤ 255
    → Lexes text kinds → Lexes (action kind cpu nic ++ text) (action_kinds kind cpu nic kinds)
lexes_action (Calc nanos) cpu nic fits small rest =
    simp append_assoc
    (lexes_reserved (codes "calc") token.Calc refl refl refl
    (lexes_space (lexes_number nanos (omega arith) refl
    (lexes_space (lexes_reserved (codes "cpu") token.Cpu refl refl refl
    (lexes_space (lexes_number cpu (omega arith) refl (lexes_line_feed rest))))))))
lexes_action (Send bytes to tag) cpu nic fits small rest =
    simp append_assoc
    (lexes_reserved (codes "send") token.Send refl refl refl
    (lexes_space (lexes_size bytes (omega arith) refl
    (lexes_space (lexes_reserved (codes "to") token.To refl refl refl
    (lexes_space (lexes_number to (omega arith) refl
    (lexes_space (lexes_reserved (codes "tag") token.Tag refl refl refl
    (lexes_space (lexes_number tag (omega arith) refl
    (lexes_space (lexes_reserved (codes "cpu") token.Cpu refl refl refl
    (lexes_space (lexes_number cpu (omega arith) refl
    (lexes_space (lexes_reserved (codes "nic") token.Nic refl refl refl
    (lexes_space (lexes_number nic (omega arith) refl (lexes_line_feed rest))))))))))))))))))))
lexes_action (Recv bytes from tag) cpu nic fits small rest =
    simp append_assoc
    (lexes_reserved (codes "recv") token.Recv refl refl refl
    (lexes_space (lexes_size bytes (omega arith) refl
    (lexes_space (lexes_reserved (codes "from") token.From refl refl refl
    (lexes_space (lexes_wild from fits.1 refl
    (lexes_space (lexes_reserved (codes "tag") token.Tag refl refl refl
    (lexes_space (lexes_wild tag fits.2 refl
    (lexes_space (lexes_reserved (codes "cpu") token.Cpu refl refl refl
    (lexes_space (lexes_number cpu (omega arith) refl
    (lexes_space (lexes_reserved (codes "nic") token.Nic refl refl refl
    (lexes_space (lexes_number nic (omega arith) refl (lexes_line_feed rest))))))))))))))))))))

lexes_op : (number : ℕ) (o : Op) {text : List ℕ} {kinds : List TokenKind} → number + 1 < 2 ^ 64 → OpFits o
    → Lexes text kinds → Lexes (op_line number o ++ text) (op_kinds number o kinds)
lexes_op number o small fits rest =
    simp append_assoc (lexes_label number small refl (lexes_colon (lexes_space (lexes_action o.kind o.cpu o.nic fits.kind fits.cpu rest))))

lexes_ops : (number : ℕ) (os : List Op) {text : List ℕ} {kinds : List TokenKind} → number + length os < 2 ^ 64 → AllByRecursion OpFits os
    → Lexes text kinds → Lexes (op_lines number os ++ text) (ops_kinds number os kinds)
unfolding op_lines
lexes_ops number [] small fits rest = rest
lexes_ops number (o ∷ os) {text} {kinds} small fits rest =
    subst (λ (t : List ℕ). Lexes t (ops_kinds number (o ∷ os) kinds)) (sym (append_assoc (op_line number o) (op_lines (number + 1) os) text))
    (lexes_op number o (omega arith) fits.0 (lexes_ops (number + 1) os (omega arith) fits.1 rest))

lexes_dep : (ops : ℕ) (d : Dep) {text : List ℕ} {kinds : List TokenKind} → ops < 2 ^ 32 → DepFits ops d
    → Lexes text kinds → Lexes (dep_line d ++ text) (deps_kinds (d ∷ []) kinds)
lexes_dep ops d {text} {kinds} small fits rest = by d.when
  where
    by : (w : When) → Lexes ((label d.later ++ verb w ++ label d.earlier ++ line_feed) ++ text) (token.Label (label d.later) ∷ verb_kind w ∷ token.Label (label d.earlier) ∷ kinds)
    by AfterEnd =
        rw (dep_line_reassociated (label d.later) (verb AfterEnd) (label d.earlier) text)
        (lexes_label d.later (omega arith) refl
        (lexes_space (lexes_reserved (codes "requires") token.Requires refl refl refl
        (lexes_space (lexes_label d.earlier (omega arith) refl (lexes_line_feed rest))))))
    by AfterStart =
        rw (dep_line_reassociated (label d.later) (verb AfterStart) (label d.earlier) text)
        (lexes_label d.later (omega arith) refl
        (lexes_space (lexes_reserved (codes "irequires") token.Irequires refl refl refl
        (lexes_space (lexes_label d.earlier (omega arith) refl (lexes_line_feed rest))))))

lexes_deps : (ops : ℕ) (ds : List Dep) {text : List ℕ} {kinds : List TokenKind} → ops < 2 ^ 32 → AllByRecursion (DepFits ops) ds
    → Lexes text kinds → Lexes (flat_map dep_line ds ++ text) (deps_kinds ds kinds)
lexes_deps ops [] small fits rest = rest
lexes_deps ops (d ∷ ds) {text} {kinds} small fits rest =
    subst (λ (t : List ℕ). Lexes t (deps_kinds (d ∷ ds) kinds)) (sym (append_assoc (dep_line d) (flat_map dep_line ds) text))
    (lexes_dep ops d small fits.0 (lexes_deps ops ds small fits.1 rest))

lexes_note : (ops : ℕ) (n : Note) {text : List ℕ} {kinds : List TokenKind} → ops < 2 ^ 32 → NoteFits ops n
    → Lexes text kinds → Lexes (note_line n ++ text) (note_kinds n kinds)
lexes_note ops (Moves op lo hi) small fits rest =
    simp append_assoc
    (lexes_label op (omega arith) refl
    (lexes_space (lexes_reserved (codes "moves") token.Moves refl refl refl
    (lexes_space (lexes_number lo (omega arith) refl
    (lexes_space (lexes_reserved (codes "to") token.To refl refl refl
    (lexes_space (lexes_number hi (omega arith) refl (lexes_line_feed rest))))))))))
lexes_note ops (Adds op from to) small fits rest =
    simp append_assoc
    (lexes_label op (omega arith) refl
    (lexes_space (lexes_reserved (codes "adds") token.Adds refl refl refl
    (lexes_space (lexes_number from (omega arith) refl
    (lexes_space (lexes_reserved (codes "to") token.To refl refl refl
    (lexes_space (lexes_number to (omega arith) refl (lexes_line_feed rest))))))))))

lexes_notes : (ops : ℕ) (ns : List Note) {text : List ℕ} {kinds : List TokenKind} → ops < 2 ^ 32 → AllByRecursion (NoteFits ops) ns
    → Lexes text kinds → Lexes (flat_map note_line ns ++ text) (notes_kinds ns kinds)
lexes_notes ops [] small fits rest = rest
lexes_notes ops (n ∷ ns) {text} {kinds} small fits rest =
    subst (λ (t : List ℕ). Lexes t (notes_kinds (n ∷ ns) kinds)) (sym (append_assoc (note_line n) (flat_map note_line ns) text))
    (lexes_note ops n small fits.0 (lexes_notes ops ns small fits.1 rest))

lexes_block : (rank : ℕ) (p : Plan) {text : List ℕ} {kinds : List TokenKind} → rank < 2 ^ 64 → PlanFits p
    → Lexes text kinds → Lexes (block rank p ++ text) (block_kinds rank p kinds)
lexes_block rank p {text} {kinds} small fits rest =
    let few : length p.ops < 2 ^ 32 = omega (arith, fits.few) in
    simp append_assoc
    (lexes_reserved (codes "rank") token.Rank refl refl refl
    (lexes_space (lexes_number rank small refl
    (lexes_space (lexes_open (lexes_line_feed
    (lexes_ops 0 p.ops (omega arith) fits.ops
    (lexes_deps (length p.ops) p.deps few fits.deps
    (lexes_notes (length p.ops) p.notes few fits.notes
    (lexes_close (lexes_line_feed rest)))))))))))

lexes_blocks : (rank : ℕ) (ps : List Plan) → rank + length ps < 2 ^ 64 → AllByRecursion PlanFits ps → Lexes (blocks rank ps) (blocks_kinds rank ps)
unfolding blocks
lexes_blocks rank [] small fits = lexes_empty
lexes_blocks rank (p ∷ ps) small fits = by p.ops (lexes_blocks (rank + 1) ps (omega arith) fits.1)
  where
    by : (os : List Op) → Lexes (blocks (rank + 1) ps) (blocks_kinds (rank + 1) ps)
        → Lexes (unless_empty os (block rank p) ++ blocks (rank + 1) ps) (unless_no_ops os (block_kinds rank p (blocks_kinds (rank + 1) ps)) (blocks_kinds (rank + 1) ps))
    by [] rest = rest
    by (o ∷ os) rest = lexes_block rank p (omega arith) fits.0 rest

-- the canonical text has these kinds of tokens
pub lexes_canonical : (plans : List Plan) → length plans < 2 ^ 32 → AllByRecursion PlanFits plans → Lexes (canonical plans) (canonical_kinds plans)
unfolding canonical
lexes_canonical plans small fits =
    simp append_assoc (
    lexes_reserved (codes "num_ranks") token.NumRanks refl refl refl
    (lexes_space (lexes_number (length plans) (omega arith) refl (lexes_line_feed (lexes_blocks 0 plans (omega arith) fits)))))
