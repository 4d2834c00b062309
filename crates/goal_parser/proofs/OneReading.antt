-- Tokens determine their sentences.
use Rattle.std.proofs.Common.{◌≡◌, ℕ, List, [], ◌∷◌, ◌++◌, Option, Some, None, refl, sym, ap, subst, ◌∙◌, append_assoc, arith}
use Rattle.std.specs.Prelude.{⊤}
use Rattle.std.specs.List.{flat_map}
use Rattle.goal_lexer.specs.declared.tokens.TokenKind.{TokenKind}
use Rattle.goal_lexer.specs.declared.tokens.TokenKind.TheVariants as token
use Rattle.goal_parser.specs.Grammar.{Amount, plain, marked, Setting, tag, cpu, nic, Item, calc, send, recv, requires, irequires, moves, adds, Block, Written, number_or_any, amount_token, setting_tokens, cpu_tokens, item_tokens, block_tokens, text_tokens}

-- no option comes next
abbrev NoOption : List TokenKind → Type 0
NoOption [] = ⊤
NoOption (token.Tag ∷ ks) = ⊥
NoOption (token.Cpu ∷ ks) = ⊥
NoOption (token.Nic ∷ ks) = ⊥
NoOption (k ∷ ks) = ⊤

amount_unique : (s t : Amount) → amount_token s ≡ amount_token t → s ≡ t
amount_unique (plain n) (plain m) same = let e : n ≡ m = cc in ap plain e
amount_unique (marked n) (marked m) same = let e : n ≡ m = cc in ap marked e
amount_unique _ _ same = cc

source_unique : (s t : Option ℕ) → number_or_any s ≡ number_or_any t → s ≡ t
source_unique None None same = refl
source_unique (Some n) (Some m) same = let e : n ≡ m = cc in ap Some e
source_unique _ _ same = cc

cpu_unique : (c d : Option ℕ) (a b : List TokenKind) → NoOption a → NoOption b → cpu_tokens c ++ a ≡ cpu_tokens d ++ b → (c ≡ d) × (a ≡ b)
cpu_unique None None a b no_a no_b same = (refl, same)
cpu_unique (Some n) (Some m) a b no_a no_b same = let e : n ≡ m = cc in (ap Some e, cc)
cpu_unique None (Some m) a b no_a no_b same = let no : ⊥ = subst NoOption same no_a in absurd no
cpu_unique (Some n) None a b no_a no_b same = let no : ⊥ = subst NoOption (sym same) no_b in absurd no

setting_begins_with_option : (s : Setting) (a b : List TokenKind) → NoOption a → a ≡ setting_tokens s ++ b → ⊥
setting_begins_with_option (tag n) a b no_a same = subst NoOption same no_a
setting_begins_with_option (cpu n) a b no_a same = subst NoOption same no_a
setting_begins_with_option (nic n) a b no_a same = subst NoOption same no_a

setting_unique : (s t : Setting) (a b : List TokenKind) → setting_tokens s ++ a ≡ setting_tokens t ++ b → (s ≡ t) × (a ≡ b)
setting_unique (tag n) (tag m) a b same = let e : number_or_any n ≡ number_or_any m = cc in (ap tag (source_unique n m e), cc)
setting_unique (cpu n) (cpu m) a b same = let e : n ≡ m = cc in (ap cpu e, cc)
setting_unique (nic n) (nic m) a b same = let e : n ≡ m = cc in (ap nic e, cc)
setting_unique _ _ a b same = cc

settings_unique : (ss ts : List Setting) (a b : List TokenKind) → NoOption a → NoOption b →
    flat_map setting_tokens ss ++ a ≡ flat_map setting_tokens ts ++ b → (ss ≡ ts) × (a ≡ b)
settings_unique [] [] a b no_a no_b same = (refl, same)
settings_unique [] (t ∷ ts) a b no_a no_b same =
    absurd (setting_begins_with_option t a (flat_map setting_tokens ts ++ b) no_a (same ∙ append_assoc (setting_tokens t) (flat_map setting_tokens ts) b))
settings_unique (s ∷ ss) [] a b no_a no_b same =
    absurd (setting_begins_with_option s b (flat_map setting_tokens ss ++ a) no_b (sym same ∙ append_assoc (setting_tokens s) (flat_map setting_tokens ss) a))
settings_unique (s ∷ ss) (t ∷ ts) a b no_a no_b same =
    let first = setting_unique s t (flat_map setting_tokens ss ++ a) (flat_map setting_tokens ts ++ b)
    (sym (append_assoc (setting_tokens s) (flat_map setting_tokens ss) a) ∙ same ∙ append_assoc (setting_tokens t) (flat_map setting_tokens ts) b) in
    let rest = settings_unique ss ts a b no_a no_b first.1 in
    (ap (λ (x : Setting). x ∷ ss) first.0 ∙ ap (λ (xs : List Setting). t ∷ xs) rest.0, rest.1)

-- actions at the front, after the same label
calc_unique : (l : Option (List ℕ)) (n m : ℕ) (c d : Option ℕ) (a b : List TokenKind) → NoOption a → NoOption b →
    token.Calc ∷ token.Number n ∷ (cpu_tokens c ++ a) ≡ token.Calc ∷ token.Number m ∷ (cpu_tokens d ++ b) → (calc l n c ≡ calc l m d) × (a ≡ b)
calc_unique l n m c d a b no_a no_b same =
    let e : n ≡ m = cc in
    let tails : cpu_tokens c ++ a ≡ cpu_tokens d ++ b = cc in
    let rest = cpu_unique c d a b no_a no_b tails in
    (ap (λ (k : ℕ). calc l k c) e ∙ ap (λ (o : Option ℕ). calc l m o) rest.0, rest.1)

send_unique : (l : Option (List ℕ)) (s t : Amount) (n m : ℕ) (ss ts : List Setting) (a b : List TokenKind) → NoOption a → NoOption b →
    token.Send ∷ amount_token s ∷ token.To ∷ token.Number n ∷ (flat_map setting_tokens ss ++ a) ≡ token.Send ∷ amount_token t ∷ token.To ∷ token.Number m ∷ (flat_map setting_tokens ts ++ b) →
    (send l s n ss ≡ send l t m ts) × (a ≡ b)
send_unique l s t n m ss ts a b no_a no_b same =
    let amounts : amount_token s ≡ amount_token t = cc in
    let e : n ≡ m = cc in
    let tails : flat_map setting_tokens ss ++ a ≡ flat_map setting_tokens ts ++ b = cc in
    let rest = settings_unique ss ts a b no_a no_b tails in
    (ap (λ (x : Amount). send l x n ss) (amount_unique s t amounts) ∙ ap (λ (k : ℕ). send l t k ss) e ∙ ap (λ (xs : List Setting). send l t m xs) rest.0, rest.1)

recv_unique : (l : Option (List ℕ)) (s t : Amount) (n m : Option ℕ) (ss ts : List Setting) (a b : List TokenKind) → NoOption a → NoOption b →
    token.Recv ∷ amount_token s ∷ token.From ∷ number_or_any n ∷ (flat_map setting_tokens ss ++ a) ≡ token.Recv ∷ amount_token t ∷ token.From ∷ number_or_any m ∷ (flat_map setting_tokens ts ++ b) →
    (recv l s n ss ≡ recv l t m ts) × (a ≡ b)
recv_unique l s t n m ss ts a b no_a no_b same =
    let amounts : amount_token s ≡ amount_token t = cc in
    let sources : number_or_any n ≡ number_or_any m = cc in
    let tails : flat_map setting_tokens ss ++ a ≡ flat_map setting_tokens ts ++ b = cc in
    let rest = settings_unique ss ts a b no_a no_b tails in
    (ap (λ (x : Amount). recv l x n ss) (amount_unique s t amounts) ∙ ap (λ (o : Option ℕ). recv l t o ss) (source_unique n m sources) ∙ ap (λ (xs : List Setting). recv l t m xs) rest.0, rest.1)

-- which of the seven items the tokens begin with
abbrev action_sort : List TokenKind → ℕ
action_sort (token.Calc ∷ ks) = 0
action_sort (token.Send ∷ ks) = 1
action_sort (token.Recv ∷ ks) = 2
action_sort _ = 7

abbrev labelled_sort : List TokenKind → ℕ
labelled_sort (token.Colon ∷ ks) = action_sort ks
labelled_sort (token.Requires ∷ ks) = 3
labelled_sort (token.Irequires ∷ ks) = 4
labelled_sort (token.Moves ∷ ks) = 5
labelled_sort (token.Adds ∷ ks) = 6
labelled_sort _ = 7

abbrev sort_of_tokens : List TokenKind → ℕ
sort_of_tokens (token.Label l ∷ ks) = labelled_sort ks
sort_of_tokens ks = action_sort ks

abbrev sort_of : Item → ℕ
sort_of (calc l n c) = 0
sort_of (send l s n ss) = 1
sort_of (recv l s n ss) = 2
sort_of (requires x y) = 3
sort_of (irequires x y) = 4
sort_of (moves x n m) = 5
sort_of (adds x n m) = 6

sort_by_tokens : (i : Item) (a : List TokenKind) → sort_of_tokens (item_tokens i ++ a) ≡ sort_of i
sort_by_tokens (calc None n c) a = refl
sort_by_tokens (calc (Some l) n c) a = refl
sort_by_tokens (send None s n ss) a = refl
sort_by_tokens (send (Some l) s n ss) a = refl
sort_by_tokens (recv None s n ss) a = refl
sort_by_tokens (recv (Some l) s n ss) a = refl
sort_by_tokens _ a = refl

same_sort : (i j : Item) (a b : List TokenKind) → item_tokens i ++ a ≡ item_tokens j ++ b → sort_of i ≡ sort_of j
same_sort i j a b same = sym (sort_by_tokens i a) ∙ ap sort_of_tokens same ∙ sort_by_tokens j b

-- one item at the front
item_unique : (i j : Item) (a b : List TokenKind) → NoOption a → NoOption b → item_tokens i ++ a ≡ item_tokens j ++ b → (i ≡ j) × (a ≡ b)
item_unique (calc None n c) (calc None m d) a b no_a no_b same = calc_unique None n m c d a b no_a no_b same
item_unique (calc None n c) (calc (Some l) m d) a b no_a no_b same = cc
item_unique (calc (Some k) n c) (calc None m d) a b no_a no_b same = cc
item_unique (calc (Some k) n c) (calc (Some l) m d) a b no_a no_b same =
    let e : k ≡ l = cc in
    let rest = calc_unique (Some k) n m c d a b no_a no_b cc in
    (rest.0 ∙ ap (λ (x : List ℕ). calc (Some x) m d) e, rest.1)
item_unique (send None s n ss) (send None t m ts) a b no_a no_b same = send_unique None s t n m ss ts a b no_a no_b same
item_unique (send None s n ss) (send (Some l) t m ts) a b no_a no_b same = cc
item_unique (send (Some k) s n ss) (send None t m ts) a b no_a no_b same = cc
item_unique (send (Some k) s n ss) (send (Some l) t m ts) a b no_a no_b same =
    let e : k ≡ l = cc in
    let rest = send_unique (Some k) s t n m ss ts a b no_a no_b cc in
    (rest.0 ∙ ap (λ (x : List ℕ). send (Some x) t m ts) e, rest.1)
item_unique (recv None s n ss) (recv None t m ts) a b no_a no_b same = recv_unique None s t n m ss ts a b no_a no_b same
item_unique (recv None s n ss) (recv (Some l) t m ts) a b no_a no_b same = cc
item_unique (recv (Some k) s n ss) (recv None t m ts) a b no_a no_b same = cc
item_unique (recv (Some k) s n ss) (recv (Some l) t m ts) a b no_a no_b same =
    let e : k ≡ l = cc in
    let rest = recv_unique (Some k) s t n m ss ts a b no_a no_b cc in
    (rest.0 ∙ ap (λ (x : List ℕ). recv (Some x) t m ts) e, rest.1)
item_unique (requires x y) (requires z w) a b no_a no_b same =
    let e : x ≡ z = cc in let f : y ≡ w = cc in (ap (λ (l : List ℕ). requires l y) e ∙ ap (λ (l : List ℕ). requires z l) f, cc)
item_unique (irequires x y) (irequires z w) a b no_a no_b same =
    let e : x ≡ z = cc in let f : y ≡ w = cc in (ap (λ (l : List ℕ). irequires l y) e ∙ ap (λ (l : List ℕ). irequires z l) f, cc)
item_unique (moves x n m) (moves y p q) a b no_a no_b same =
    let e : x ≡ y = cc in let f : n ≡ p = cc in let g : m ≡ q = cc in
    (ap (λ (l : List ℕ). moves l n m) e ∙ ap (λ (k : ℕ). moves y k m) f ∙ ap (λ (k : ℕ). moves y p k) g, cc)
item_unique (adds x n m) (adds y p q) a b no_a no_b same =
    let e : x ≡ y = cc in let f : n ≡ p = cc in let g : m ≡ q = cc in
    (ap (λ (l : List ℕ). adds l n m) e ∙ ap (λ (k : ℕ). adds y k m) f ∙ ap (λ (k : ℕ). adds y p k) g, cc)
item_unique i j a b no_a no_b same = let no = same_sort i j a b same in absurd (omega arith)

-- after an item comes another item, or the end of the block
item_begins_with_no_option : (i : Item) (a : List TokenKind) → NoOption (item_tokens i ++ a)
item_begins_with_no_option (calc None n c) a = tt
item_begins_with_no_option (calc (Some l) n c) a = tt
item_begins_with_no_option (send None s n ss) a = tt
item_begins_with_no_option (send (Some l) s n ss) a = tt
item_begins_with_no_option (recv None s n ss) a = tt
item_begins_with_no_option (recv (Some l) s n ss) a = tt
item_begins_with_no_option _ a = tt

items_begin_with_no_option : (is : List Item) (a : List TokenKind) → NoOption (flat_map item_tokens is ++ token.Close ∷ a)
items_begin_with_no_option [] a = tt
items_begin_with_no_option (i ∷ is) a = subst NoOption (sym (append_assoc (item_tokens i) (flat_map item_tokens is) (token.Close ∷ a))) (item_begins_with_no_option i (flat_map item_tokens is ++ token.Close ∷ a))

close_begins_no_item : (i : Item) (a b : List TokenKind) → token.Close ∷ a ≡ item_tokens i ++ b → ⊥
close_begins_no_item (calc None n c) a b same = cc
close_begins_no_item (calc (Some l) n c) a b same = cc
close_begins_no_item (send None s n ss) a b same = cc
close_begins_no_item (send (Some l) s n ss) a b same = cc
close_begins_no_item (recv None s n ss) a b same = cc
close_begins_no_item (recv (Some l) s n ss) a b same = cc
close_begins_no_item _ a b same = cc

items_unique : (is js : List Item) (a b : List TokenKind) → flat_map item_tokens is ++ token.Close ∷ a ≡ flat_map item_tokens js ++ token.Close ∷ b → (is ≡ js) × (a ≡ b)
items_unique [] [] a b same = (refl, cc)
items_unique [] (j ∷ js) a b same =
    absurd (close_begins_no_item j a (flat_map item_tokens js ++ token.Close ∷ b) (same ∙ append_assoc (item_tokens j) (flat_map item_tokens js) (token.Close ∷ b)))
items_unique (i ∷ is) [] a b same =
    absurd (close_begins_no_item i b (flat_map item_tokens is ++ token.Close ∷ a) (sym same ∙ append_assoc (item_tokens i) (flat_map item_tokens is) (token.Close ∷ a)))
items_unique (i ∷ is) (j ∷ js) a b same =
    let first = item_unique i j (flat_map item_tokens is ++ token.Close ∷ a) (flat_map item_tokens js ++ token.Close ∷ b) (items_begin_with_no_option is a) (items_begin_with_no_option js b)
    (sym (append_assoc (item_tokens i) (flat_map item_tokens is) (token.Close ∷ a)) ∙ same ∙ append_assoc (item_tokens j) (flat_map item_tokens js) (token.Close ∷ b)) in
    let rest = items_unique is js a b first.1 in
    (ap (λ (x : Item). x ∷ is) first.0 ∙ ap (λ (xs : List Item). j ∷ xs) rest.0, rest.1)

blocks_unique : (bs cs : List Block) → flat_map block_tokens bs ≡ flat_map block_tokens cs → bs ≡ cs
blocks_unique [] [] same = refl
blocks_unique [] (c ∷ cs) same = cc
blocks_unique (b ∷ bs) [] same = cc
blocks_unique (b ∷ bs) (c ∷ cs) same =
    let close = token.Close ∷ [] in
    let ranks : b.rank ≡ c.rank = cc in
    let tails : flat_map item_tokens b.items ++ close ++ flat_map block_tokens bs ≡ flat_map item_tokens c.items ++ close ++ flat_map block_tokens cs = cc in
    let rest = items_unique b.items c.items (flat_map block_tokens bs) (flat_map block_tokens cs)
    (sym (append_assoc (flat_map item_tokens b.items) close (flat_map block_tokens bs)) ∙ tails ∙ append_assoc (flat_map item_tokens c.items) close (flat_map block_tokens cs)) in
    let first : b ≡ c = λ i. record { rank = ranks i; items = rest.0 i } in
    ap (λ (x : Block). x ∷ bs) first ∙ ap (λ (xs : List Block). c ∷ xs) (blocks_unique bs cs rest.1)

pub text_tokens_injective : (w v : Written) → text_tokens w ≡ text_tokens v → w ≡ v
text_tokens_injective w v same =
    let ranks : w.ranks ≡ v.ranks = cc in
    let tails : flat_map block_tokens w.blocks ≡ flat_map block_tokens v.blocks = cc in
    let blocks = blocks_unique w.blocks v.blocks tails in
    λ i. record { ranks = ranks i; blocks = blocks i }
