-- The tokens of a chip that texts can have, and that they spell the chip.
use Rattle.std.proofs.Common.{◌≡◌, ℕ, ◌≤◌, Bool, true, false, cond, List, [], ◌∷◌, Ok, Err, Option, Some, None, refl, ap, ◌∙◌, arith, leb-true}
use Rattle.std.specs.Prelude.{nat_lt, nat_le, ◌&&◌}
use Rattle.std.proofs.lemmas.Bool.{le-ltb, le-leb}
use Rattle.scan_text.specs.Text.{start}
use Rattle.grammar.specs.declared.Fault.TheVariants.{Grammar}
use Rattle.grammar.specs.Rules.{option, repeat, next, Tree, NoMore, tree_of_list, Reads, marked, worded, at_end, both, left, right, passed, taken, ended, again, inside}
use Rattle.hdl_tree.specs.declared.tree.Pin.{Pin}
use Rattle.hdl_tree.specs.declared.tree.Subscript.{Subscript}
use Rattle.hdl_tree.specs.declared.tree.Subscript.TheVariants as sub
use Rattle.hdl_tree.specs.declared.tree.Selection.{Selection}
use Rattle.hdl_tree.specs.declared.tree.Source.{Source}
use Rattle.hdl_tree.specs.declared.tree.Source.TheVariants as from
use Rattle.hdl_tree.specs.declared.tree.Connection.{Connection}
use Rattle.hdl_tree.specs.declared.tree.Part.{Part}
use Rattle.hdl_tree.specs.declared.tree.Body.{Body}
use Rattle.hdl_tree.specs.declared.tree.Body.TheVariants as made_of
use Rattle.hdl_tree.specs.declared.tree.Chip.{Chip}
use Rattle.hdl_parser.specs.declared.token.Keyword.{Keyword}
use Rattle.hdl_parser.specs.declared.token.Keyword.TheVariants as keyword
use Rattle.hdl_parser.specs.declared.token.Kind.{Kind}
use Rattle.hdl_parser.specs.declared.token.Kind.TheVariants as kind
use Rattle.hdl_parser.specs.Tokens.{Word}
use Rattle.hdl_parser.specs.Grammar.{hdl, Said, HdlRule, is_symbol, is_keyword, keyword_is, is_name, too_large, check_width, check_index, check_last, name, row, next_of, listing, width_rule, pin, subscript, selection, source, connection, part, body, whole}
use Rattle.hdl_parser.specs.Trees.{name_leaf, next_tree, row_with, listing_tree, width_tree, pin_tree, subscript_tree, selection_tree, source_tree, connection_tree, part_tree, body_tree, truth}
use Rattle.hdl_parser.specs.Spells.{whole_tree}
use Rattle.hdl_tree.specs.Writable.{all, all_of_some, name_can, width_can, pin_can, subscript_can, selection_can, source_can, connection_can, part_can, body_can, chip_can}
use Rattle.hdl_parser.proofs.Spaced.{AllGood, name_good, first_of, second_of}

-- tokens

abbrev plain : Kind → Word
plain k = record { kind = k; text = []; place = start }

abbrev sign : ℕ → Word
sign b = plain (kind.Symbol b)

abbrev key : Keyword → Word
key k = plain (kind.Keyword k)

abbrev number : ℕ → Word
number n = plain (kind.Number n)

abbrev name_word : List ℕ → Word
name_word n = record { kind = kind.Name; text = n; place = start }

-- the tokens of each part, before others
abbrev name_words : List ℕ → List Word → List Word
name_words n rest = name_word n ∷ rest

abbrev width_words : Option ℕ → List Word → List Word
width_words None rest = rest
width_words (Some n) rest = sign 91 ∷ number n ∷ sign 93 ∷ rest

abbrev pin_words : Pin → List Word → List Word
pin_words p rest = name_word p.name ∷ width_words p.width rest

abbrev more_words : {X : Type 0} → (X → List Word → List Word) → List X → List Word → List Word
more_words words [] rest = rest
more_words words (x ∷ xs) rest = sign 44 ∷ words x (more_words words xs rest)

abbrev row_words : {X : Type 0} → (X → List Word → List Word) → List X → List Word → List Word
row_words words [] rest = rest
row_words words (x ∷ xs) rest = words x (more_words words xs rest)

abbrev listing_words : {X : Type 0} → Keyword → (X → List Word → List Word) → List X → List Word → List Word
listing_words k words [] rest = rest
listing_words k words (x ∷ xs) rest = key k ∷ words x (more_words words xs (sign 59 ∷ rest))

abbrev subscript_words : Option Subscript → List Word → List Word
subscript_words None rest = rest
subscript_words (Some (sub.Bit i)) rest = sign 91 ∷ number i ∷ sign 93 ∷ rest
subscript_words (Some (sub.Bits i j)) rest = sign 91 ∷ number i ∷ plain kind.Dots ∷ number j ∷ sign 93 ∷ rest

abbrev selection_words : Selection → List Word → List Word
selection_words w rest = name_word w.name ∷ subscript_words w.subscript rest

abbrev source_words : Source → List Word → List Word
source_words (from.Net w) rest = selection_words w rest
source_words (from.Constant b) rest = key (truth b) ∷ rest

abbrev connection_words : Connection → List Word → List Word
connection_words c rest = selection_words c.pin (sign 61 ∷ source_words c.source rest)

abbrev part_words : Part → List Word → List Word
part_words p rest = name_word p.chip ∷ sign 40 ∷ row_words connection_words p.connections (sign 41 ∷ sign 59 ∷ rest)

abbrev parts_words : List Part → List Word → List Word
parts_words [] rest = rest
parts_words (p ∷ ps) rest = part_words p (parts_words ps rest)

abbrev body_words : Body → List Word → List Word
body_words (made_of.Parts ps) rest = key keyword.Parts ∷ sign 58 ∷ parts_words ps rest
body_words (made_of.Builtin n clocked) rest = key keyword.Builtin ∷ name_word n ∷ sign 59 ∷ listing_words keyword.Clocked name_words clocked rest

abbrev behind_outputs : Chip → List Word
behind_outputs c = body_words c.body (sign 125 ∷ [])

abbrev behind_inputs : Chip → List Word
behind_inputs c = listing_words keyword.Out pin_words c.outputs (behind_outputs c)

abbrev pub chip_words : Chip → List Word
chip_words c = key keyword.Chip ∷ name_word c.name ∷ sign 123 ∷ listing_words keyword.In pin_words c.inputs (behind_inputs c)

-- They are read as the chip.

abbrev Rd : HdlRule → List Word → Tree Said → List Word → Type 0
Rd r ts x us = Reads Word ℕ (Unit {0}) Said (hdl start) 0 r ts x 0 us

-- what doesn't come next: a bracket, a comma
abbrev NoBracket : List Word → Type 0
NoBracket ts = next (is_symbol 91) ts ≡ false

abbrev NoComma : List Word → Type 0
NoComma ts = next (is_symbol 44) ts ≡ false

below : (n most : ℕ) → nat_le n most ≡ true → nat_lt most n ≡ false
below n most h = le-ltb most n (leb-true n most h)

width_ok : (n : ℕ) → nat_le n 16 ≡ true → check_width 0 (number n) ≡ Ok 0
width_ok n h = ap (λ (t : Bool). cond t (Err (too_large start n)) (Ok 0)) (below n 16 h)

index_ok : (n : ℕ) → nat_le n 15 ≡ true → check_index 0 (number n) ≡ Ok n
index_ok n h = ap (λ (t : Bool). cond t (Err (too_large start n)) (Ok n)) (below n 15 h)

last_ok : (i j : ℕ) → nat_le i j ≡ true → nat_le j 15 ≡ true → check_last i (number j) ≡ Ok i
last_ok i j h k =
    ap (λ (t : Bool). cond t (Err (too_large start j)) (cond (nat_lt j i) (Err (Grammar start)) (Ok i))) (below j 15 k)
    ∙ ap (λ (t : Bool). cond t (Err (Grammar start)) (Ok i)) (below i j h)

within_last : (i j : ℕ) → nat_le i j ≡ true → nat_le j 15 ≡ true → nat_le i 15 ≡ true
within_last i j h k =
    let a = leb-true i j h in
    let b = leb-true j 15 k in
    le-leb i 15 (omega (arith, a, b))

name_read : (n : List ℕ) (rest : List Word) → Rd name (name_words n rest) (name_leaf n) rest
name_read n rest = worded refl refl

width_read : (w : Option ℕ) → width_can w ≡ true → (rest : List Word) → NoBracket rest → Rd (option width_rule) (width_words w rest) (width_tree w) rest
width_read None h rest e = passed e
width_read (Some n) h rest e = taken refl (both (marked refl) (both (worded refl (width_ok n h)) (marked refl)))

pin_read : (p : Pin) → pin_can p ≡ true → (rest : List Word) → NoBracket rest → Rd pin (pin_words p rest) (pin_tree p) rest
pin_read p h rest e = both (name_read p.name (width_words p.width rest)) (width_read p.width (second_of (name_can p.name) (width_can p.width) h) rest e)

module _ {X : Type 0} (a : HdlRule) (words : X → List Word → List Word) (tree : X → Tree Said) (ok : X → Bool) (one : (x : X) → ok x ≡ true → (rest : List Word) → NoBracket rest → Rd a (words x rest) (tree x) rest) where
  no_bracket : (xs : List X) (rest : List Word) → NoBracket rest → NoBracket (more_words words xs rest)
  no_bracket [] rest e = e
  no_bracket (x ∷ xs) rest e = refl

  more_read : (xs : List X) → all ok xs ≡ true → (rest : List Word) → NoBracket rest → NoComma rest → Rd (repeat (next_of a)) (more_words words xs rest) (tree_of_list (next_tree tree) xs NoMore) rest
  more_read [] h rest e f = ended f
  more_read (x ∷ xs) h rest e f =
      again refl (both (marked refl) (one x (first_of (ok x) (all ok xs) h) (more_words words xs rest) (no_bracket xs rest e))) (more_read xs (second_of (ok x) (all ok xs) h) rest e f)

  row_read : (xs : List X) → all_of_some ok xs ≡ true → (rest : List Word) → NoBracket rest → NoComma rest → Rd (row a) (row_words words xs rest) (row_with tree xs NoMore) rest
  row_read [] h rest e f = absurd cc
  row_read (x ∷ xs) h rest e f =
      both (one x (first_of (ok x) (all ok xs) h) (more_words words xs rest) (no_bracket xs rest e)) (more_read xs (second_of (ok x) (all ok xs) h) rest e f)

  listing_read : (k : Keyword) → keyword_is k (kind.Keyword k) ≡ true → (xs : List X) → all ok xs ≡ true → (rest : List Word) → next (is_keyword k) rest ≡ false → Rd (option (listing k a)) (listing_words k words xs rest) (listing_tree tree xs) rest
  listing_read k same [] h rest e = passed e
  listing_read k same (x ∷ xs) h rest e = taken same (both (marked same) (both (row_read (x ∷ xs) h (sign 59 ∷ rest) refl refl) (marked refl)))

subscript_read : (s : Option Subscript) → subscript_can s ≡ true → (rest : List Word) → NoBracket rest → Rd (option subscript) (subscript_words s rest) (subscript_tree s) rest
subscript_read None h rest e = passed e
subscript_read (Some (sub.Bit i)) h rest e = taken refl (both (marked refl) (both (inside refl refl (both (worded refl (index_ok i h)) (passed refl))) (marked refl)))
subscript_read (Some (sub.Bits i j)) h rest e =
    let rises = first_of (nat_le i j) (nat_le j 15) h in
    let small = second_of (nat_le i j) (nat_le j 15) h in
    taken refl (both (marked refl) (both (inside refl refl (both (worded refl (index_ok i (within_last i j rises small))) (taken refl (both (marked refl) (worded refl (last_ok i j rises small)))))) (marked refl)))

selection_read : (w : Selection) → selection_can w ≡ true → (rest : List Word) → NoBracket rest → Rd selection (selection_words w rest) (selection_tree w) rest
selection_read w h rest e = both (name_read w.name (subscript_words w.subscript rest)) (subscript_read w.subscript (second_of (name_can w.name) (subscript_can w.subscript) h) rest e)

source_read : (s : Source) → source_can s ≡ true → (rest : List Word) → NoBracket rest → Rd source (source_words s rest) (source_tree s) rest
source_read (from.Net w) h rest e = left refl (selection_read w h rest e)
source_read (from.Constant true) h rest e = right refl refl (worded refl refl)
source_read (from.Constant false) h rest e = right refl refl (worded refl refl)

connection_read : (c : Connection) → connection_can c ≡ true → (rest : List Word) → NoBracket rest → Rd connection (connection_words c rest) (connection_tree c) rest
connection_read c h rest e =
    both (selection_read c.pin (first_of (selection_can c.pin) (source_can c.source) h) (sign 61 ∷ source_words c.source rest) refl)
    (both (marked refl) (source_read c.source (second_of (selection_can c.pin) (source_can c.source) h) rest e))

part_read : (p : Part) → part_can p ≡ true → (rest : List Word) → Rd part (part_words p rest) (part_tree p) rest
part_read p h rest =
    let behind : List Word = sign 41 ∷ sign 59 ∷ rest in
    let connected = second_of (name_can p.chip) (all_of_some connection_can p.connections) h in
    both (name_read p.chip (sign 40 ∷ row_words connection_words p.connections behind))
    (both (marked refl) (both (row_read connection connection_words connection_tree connection_can connection_read p.connections connected behind refl refl) (both (marked refl) (marked refl))))

parts_read : (ps : List Part) → all part_can ps ≡ true → (rest : List Word) → next is_name rest ≡ false → Rd (repeat part) (parts_words ps rest) (tree_of_list part_tree ps NoMore) rest
parts_read [] h rest e = ended e
parts_read (p ∷ ps) h rest e = again refl (part_read p (first_of (part_can p) (all part_can ps) h) (parts_words ps rest)) (parts_read ps (second_of (part_can p) (all part_can ps) h) rest e)

body_read : (b : Body) → body_can b ≡ true → (rest : List Word) → next is_name rest ≡ false → next (is_keyword keyword.Clocked) rest ≡ false → Rd body (body_words b rest) (body_tree b) rest
body_read (made_of.Parts ps) h rest e f = left refl (both (marked refl) (both (marked refl) (parts_read ps h rest e)))
body_read (made_of.Builtin n clocked) h rest e f =
    right refl refl (both (marked refl) (both (name_read n (sign 59 ∷ listing_words keyword.Clocked name_words clocked rest))
    (both (marked refl) (listing_read name name_words name_leaf name_can (λ m k r x. name_read m r) keyword.Clocked refl clocked (second_of (name_can n) (all name_can clocked) h) rest f))))

-- what stands after the inputs is not `IN`, and what stands after the outputs is not `OUT`
no_inputs_by : (ps : List Pin) (b : Body) (rest : List Word) → next (is_keyword keyword.In) (listing_words keyword.Out pin_words ps (body_words b rest)) ≡ false
no_inputs_by [] (made_of.Parts ps) rest = refl
no_inputs_by [] (made_of.Builtin n clocked) rest = refl
no_inputs_by (p ∷ ps) b rest = refl

no_outputs : (b : Body) (rest : List Word) → next (is_keyword keyword.Out) (body_words b rest) ≡ false
no_outputs (made_of.Parts ps) rest = refl
no_outputs (made_of.Builtin n clocked) rest = refl

-- what chip_can says, part by part
record Cans (c : Chip) : Type 0 where
  named : name_can c.name ≡ true
  fed : all pin_can c.inputs ≡ true
  giving : all pin_can c.outputs ≡ true
  made : body_can c.body ≡ true

cans_of : (c : Chip) → chip_can c ≡ true → Cans c
cans_of c h =
    let r = second_of (name_can c.name) (all pin_can c.inputs && (all pin_can c.outputs && body_can c.body)) h in
    let q = second_of (all pin_can c.inputs) (all pin_can c.outputs && body_can c.body) r in
    record {
      named = first_of (name_can c.name) (all pin_can c.inputs && (all pin_can c.outputs && body_can c.body)) h;
      fed = first_of (all pin_can c.inputs) (all pin_can c.outputs && body_can c.body) r;
      giving = first_of (all pin_can c.outputs) (body_can c.body) q;
      made = second_of (all pin_can c.outputs) (body_can c.body) q;
    }

pub chip_read : (c : Chip) → chip_can c ≡ true → Rd whole (chip_words c) (whole_tree c) []
chip_read c h =
    let p = cans_of c h in
    both
    (both (marked refl) (both (name_read c.name (sign 123 ∷ listing_words keyword.In pin_words c.inputs (behind_inputs c))) (both (marked refl)
    (both (listing_read pin pin_words pin_tree pin_can pin_read keyword.In refl c.inputs p.fed (behind_inputs c) (no_inputs_by c.outputs c.body (sign 125 ∷ [])))
    (both (listing_read pin pin_words pin_tree pin_can pin_read keyword.Out refl c.outputs p.giving (behind_outputs c) (no_outputs c.body (sign 125 ∷ [])))
    (both (body_read c.body p.made (sign 125 ∷ []) refl refl) (marked refl)))))))
    at_end

-- They are tokens that a text can have.

name_fine : (n : List ℕ) → name_can n ≡ true → (rest : List Word) → AllGood rest → AllGood (name_words n rest)
name_fine n h rest g = (name_good n h, g)

small : (n most : ℕ) → most ≤ 16 → nat_le n most ≡ true → n ≤ 1000000001
small n most m h = let k = leb-true n most h in omega (arith, k, m)

width_fine : (w : Option ℕ) → width_can w ≡ true → (rest : List Word) → AllGood rest → AllGood (width_words w rest)
width_fine None h rest g = g
width_fine (Some n) h rest g = ((refl, refl), (small n 16 (omega arith) h, ((refl, refl), g)))

pin_fine : (p : Pin) → pin_can p ≡ true → (rest : List Word) → AllGood rest → AllGood (pin_words p rest)
pin_fine p h rest g = name_fine p.name (first_of (name_can p.name) (width_can p.width) h) (width_words p.width rest) (width_fine p.width (second_of (name_can p.name) (width_can p.width) h) rest g)

module _ {X : Type 0} (words : X → List Word → List Word) (ok : X → Bool) (one : (x : X) → ok x ≡ true → (rest : List Word) → AllGood rest → AllGood (words x rest)) where
  more_fine : (xs : List X) → all ok xs ≡ true → (rest : List Word) → AllGood rest → AllGood (more_words words xs rest)
  more_fine [] h rest g = g
  more_fine (x ∷ xs) h rest g = ((refl, refl), one x (first_of (ok x) (all ok xs) h) (more_words words xs rest) (more_fine xs (second_of (ok x) (all ok xs) h) rest g))

  row_fine : (xs : List X) → all_of_some ok xs ≡ true → (rest : List Word) → AllGood rest → AllGood (row_words words xs rest)
  row_fine [] h rest g = g
  row_fine (x ∷ xs) h rest g = one x (first_of (ok x) (all ok xs) h) (more_words words xs rest) (more_fine xs (second_of (ok x) (all ok xs) h) rest g)

  listing_fine : (k : Keyword) (xs : List X) → all ok xs ≡ true → (rest : List Word) → AllGood rest → AllGood (listing_words k words xs rest)
  listing_fine k [] h rest g = g
  listing_fine k (x ∷ xs) h rest g = (tt, one x (first_of (ok x) (all ok xs) h) (more_words words xs (sign 59 ∷ rest)) (more_fine xs (second_of (ok x) (all ok xs) h) (sign 59 ∷ rest) ((refl, refl), g)))

subscript_fine : (s : Option Subscript) → subscript_can s ≡ true → (rest : List Word) → AllGood rest → AllGood (subscript_words s rest)
subscript_fine None h rest g = g
subscript_fine (Some (sub.Bit i)) h rest g = ((refl, refl), (small i 15 (omega arith) h, ((refl, refl), g)))
subscript_fine (Some (sub.Bits i j)) h rest g =
    let rises = first_of (nat_le i j) (nat_le j 15) h in
    let low = second_of (nat_le i j) (nat_le j 15) h in
    ((refl, refl), (small i 15 (omega arith) (within_last i j rises low), (tt, (small j 15 (omega arith) low, ((refl, refl), g)))))

selection_fine : (w : Selection) → selection_can w ≡ true → (rest : List Word) → AllGood rest → AllGood (selection_words w rest)
selection_fine w h rest g = name_fine w.name (first_of (name_can w.name) (subscript_can w.subscript) h) (subscript_words w.subscript rest) (subscript_fine w.subscript (second_of (name_can w.name) (subscript_can w.subscript) h) rest g)

source_fine : (s : Source) → source_can s ≡ true → (rest : List Word) → AllGood rest → AllGood (source_words s rest)
source_fine (from.Net w) h rest g = selection_fine w h rest g
source_fine (from.Constant b) h rest g = (tt, g)

connection_fine : (c : Connection) → connection_can c ≡ true → (rest : List Word) → AllGood rest → AllGood (connection_words c rest)
connection_fine c h rest g =
    selection_fine c.pin (first_of (selection_can c.pin) (source_can c.source) h) (sign 61 ∷ source_words c.source rest) ((refl, refl), source_fine c.source (second_of (selection_can c.pin) (source_can c.source) h) rest g)

part_fine : (p : Part) → part_can p ≡ true → (rest : List Word) → AllGood rest → AllGood (part_words p rest)
part_fine p h rest g =
    let behind : List Word = sign 41 ∷ sign 59 ∷ rest in
    name_fine p.chip (first_of (name_can p.chip) (all_of_some connection_can p.connections) h) (sign 40 ∷ row_words connection_words p.connections behind)
    ((refl, refl), row_fine connection_words connection_can connection_fine p.connections (second_of (name_can p.chip) (all_of_some connection_can p.connections) h) behind ((refl, refl), ((refl, refl), g)))

parts_fine : (ps : List Part) → all part_can ps ≡ true → (rest : List Word) → AllGood rest → AllGood (parts_words ps rest)
parts_fine [] h rest g = g
parts_fine (p ∷ ps) h rest g = part_fine p (first_of (part_can p) (all part_can ps) h) (parts_words ps rest) (parts_fine ps (second_of (part_can p) (all part_can ps) h) rest g)

body_fine : (b : Body) → body_can b ≡ true → (rest : List Word) → AllGood rest → AllGood (body_words b rest)
body_fine (made_of.Parts ps) h rest g = (tt, ((refl, refl), parts_fine ps h rest g))
body_fine (made_of.Builtin n clocked) h rest g = (
  tt,
  name_fine n (first_of (name_can n) (all name_can clocked) h) (sign 59 ∷ listing_words keyword.Clocked name_words clocked rest)
      ((refl, refl), listing_fine name_words name_can name_fine keyword.Clocked clocked (second_of (name_can n) (all name_can clocked) h) rest g),
)

pub chip_fine : (c : Chip) → chip_can c ≡ true → AllGood (chip_words c)
chip_fine c h =
    let p = cans_of c h in (
      tt,
      name_fine c.name p.named (sign 123 ∷ listing_words keyword.In pin_words c.inputs (behind_inputs c)) (
        (refl, refl),
        listing_fine pin_words pin_can pin_fine keyword.In c.inputs p.fed (behind_inputs c)
            (listing_fine pin_words pin_can pin_fine keyword.Out c.outputs p.giving (behind_outputs c) (body_fine c.body p.made (sign 125 ∷ []) ((refl, refl), tt))),
      ),
    )
