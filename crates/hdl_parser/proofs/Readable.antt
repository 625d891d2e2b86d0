-- What is read is the tree of a chip that texts can have.
use Rattle.std.proofs.Common.{◌≡◌, ℕ, Bool, true, false, cond, length, List, [], ◌∷◌, Result, Ok, Err, Option, Some, None, refl, sym, ap, subst, ◌∙◌}
use Rattle.std.specs.Prelude.{IfOk, nat_lt, nat_le, not, ◌&&◌, ◌≤◌}
use Rattle.std.proofs.lemmas.Bool.{le-leb, ltb-false}
use Rattle.scan_text.specs.declared.Place.{Place}
use Rattle.grammar.specs.declared.Fault.{Fault}
use Rattle.grammar.specs.declared.Fault.TheVariants.{Grammar}
use Rattle.grammar.specs.declared.ReadError.{ReadError}
use Rattle.grammar.specs.Rules.{option, repeat, Tree, Skip, Node, Leaf, Pair, Left, Right, Absent, Present, NoMore, More, tree_of_list, Reads, marked, worded, at_end, both, left, right, passed, taken, ended, again, named, inside}
use Rattle.hdl_tree.specs.declared.tree.Subscript.TheVariants as sub
use Rattle.hdl_tree.specs.declared.tree.Source.TheVariants as from
use Rattle.hdl_tree.specs.declared.tree.Body.TheVariants as made_of
use Rattle.hdl_tree.specs.declared.tree.Chip.{Chip}
use Rattle.hdl_tree.specs.Writable.{all, all_of_some, is_letter, is_name_byte, is_among, reserved_names, name_can, width_can, pin_can, subscript_can, selection_can, source_can, connection_can, part_can, body_can, chip_can}
use Rattle.hdl_parser.specs.declared.token.Keyword.{Keyword}
use Rattle.hdl_parser.specs.declared.token.Keyword.TheVariants as keyword
use Rattle.hdl_parser.specs.declared.token.Kind.{Kind}
use Rattle.hdl_parser.specs.declared.token.Kind.TheVariants as kind
use Rattle.hdl_parser.specs.Tokens.{Word, keyword_of, kind_of}
use Rattle.hdl_parser.specs.Grammar.{hdl, Said, Fixed, HdlRule, names, counts, stands_for, value_of, too_large, name, row, next_of, listing, width_rule, pin, range, subscript, selection, source, connection, part, body, chip, whole}
use Rattle.hdl_parser.specs.Trees.{name_leaf, number_said, constant_said, next_tree, row_with, listing_tree, width_tree, pin_tree, range_tree, subscript_tree, selection_tree, source_tree, connection_tree, part_tree, body_tree, chip_tree}
use Rattle.hdl_parser.specs.Spells.{whole_tree, SpellsTree, Spells}
use Rattle.hdl_parser.specs.Printed.{chip_text}
use Rattle.hdl_parser.proofs.Apart.{apart}
use Rattle.hdl_parser.proofs.Blindness.{printed_spells}
use Rattle.grammar.proofs.Spaced.{All}
use Rattle.hdl_parser.proofs.Spaced.{Named, Good, AllGood, good_tokens, is_one, reserved_is}

both_hold : (a b : Bool) → a ≡ true → b ≡ true → (a && b) ≡ true
both_hold a b e f = rw (e, f) refl

-- what is known of a name's token
are_all : (is : ℕ → Bool) (bs : List ℕ) → All is bs → all is bs ≡ true
are_all is [] h = refl
are_all is (b ∷ bs) h = both_hold (is b) (all is bs) h.0 (are_all is bs h.1)

free_by : (o : Option Keyword) → kind_of o ≡ kind.Name → not (is_one o) ≡ true
free_by None h = refl
free_by (Some k) h = absurd cc

text_can : (x : List ℕ) → Named x kind.Name → name_can x ≡ true
text_can x n =
    let word : List ℕ = n.first ∷ n.more in
    let free : not (is_among word reserved_names) ≡ true = ap (λ (l : List ℕ). not (is_among l reserved_names)) (sym n.is) ∙ ap not (reserved_is x) ∙ free_by (keyword_of x) n.kind in
    ap name_can n.is
    ∙ both_hold (is_letter n.first) (all is_name_byte n.more && not (is_among word reserved_names)) n.letter (both_hold (all is_name_byte n.more) (not (is_among word reserved_names)) (are_all is_name_byte n.more n.names) free)

named_can : (k : Kind) (x : List ℕ) → names k ≡ true → Good k x → name_can x ≡ true
named_can (kind.Keyword j) x i g = absurd cc
named_can (kind.Symbol b) x i g = absurd cc
named_can kind.Dots x i g = absurd cc
named_can (kind.Number n) x i g = absurd cc
named_can kind.Name x i g = text_can x g

-- what a number and a constant say
number_is : (k : Kind) → counts k ≡ true → Fixed k ≡ number_said (value_of k)
number_is (kind.Keyword j) i = absurd cc
number_is (kind.Symbol b) i = absurd cc
number_is kind.Dots i = absurd cc
number_is (kind.Number n) i = refl
number_is kind.Name i = absurd cc

truth_is : (k : Keyword) → stands_for (kind.Keyword k) ≡ true → (b : Bool) × (Fixed (kind.Keyword k) ≡ constant_said b)
truth_is keyword.Chip i = absurd cc
truth_is keyword.In i = absurd cc
truth_is keyword.Out i = absurd cc
truth_is keyword.Parts i = absurd cc
truth_is keyword.Builtin i = absurd cc
truth_is keyword.Clocked i = absurd cc
truth_is keyword.True i = (true, refl)
truth_is keyword.False i = (false, refl)

constant_is : (k : Kind) → stands_for k ≡ true → (b : Bool) × (Fixed k ≡ constant_said b)
constant_is (kind.Keyword j) i = truth_is j i
constant_is (kind.Symbol b) i = absurd cc
constant_is kind.Dots i = absurd cc
constant_is (kind.Number n) i = absurd cc
constant_is kind.Name i = absurd cc

-- what is known of a number that passed its check
within_by : (most n : ℕ) (f : Fault) (r : Result ℕ Fault) (s : ℕ) (t : Bool) → nat_lt most n ≡ t → cond t (Err f) r ≡ Ok s → nat_le n most ≡ true
within_by most n f r s true e c = absurd cc
within_by most n f r s false e c = le-leb n most (ltb-false most n e)

counted_by : (n : ℕ) (f : Fault) (s : ℕ) (t : Bool) → cond t (Err f) (Ok n) ≡ Ok s → n ≡ s
counted_by n f s true c = absurd cc
counted_by n f s false c = cc

rises_by : (i n : ℕ) (f h : Fault) (s : ℕ) (t u : Bool) → nat_lt n i ≡ u → cond t (Err f) (cond u (Err h) (Ok i)) ≡ Ok s → nat_le i n ≡ true
rises_by i n f h s true u e c = absurd cc
rises_by i n f h s false true e c = absurd cc
rises_by i n f h s false false e c = le-leb i n (ltb-false n i e)

-- the tree is that of a thing that texts can have
abbrev pub Of : {X : Type 0} → (X → Tree Said) → (X → Bool) → Tree Said → Type 0
Of {X} tree can t = (x : X) × (t ≡ tree x) × (can x ≡ true)

module _ (at : Place) where
  abbrev Rd : ℕ → HdlRule → List Word → Tree Said → ℕ → List Word → Type 0
  Rd s r ts x s' us = Reads Word ℕ (Unit {0}) Said (hdl at) s r ts x s' us

  left_good : {s s' : ℕ} {r : HdlRule} {ts us : List Word} {x : Tree Said} → Rd s r ts x s' us → AllGood ts → AllGood us
  left_good (marked e) g = g.1
  left_good (worded e c) g = g.1
  left_good at_end g = g
  left_good (both p q) g = left_good q (left_good p g)
  left_good (left e p) g = left_good p g
  left_good (right e f p) g = left_good p g
  left_good (passed e) g = g
  left_good (taken e p) g = left_good p g
  left_good (ended e) g = g
  left_good (again e p q) g = left_good q (left_good p g)
  left_good (named p) g = left_good p g
  left_good (inside e c p) g = left_good p g

  name_of : {s s' : ℕ} {ts us : List Word} {x : Tree Said} → Rd s name ts x s' us → AllGood ts → Of name_leaf name_can x
  name_of (worded {t = t} i c) g = (t.text, refl, named_can t.kind t.text i g.0)

  width_of : {s s' : ℕ} {ts us : List Word} {x : Tree Said} → Rd s (option width_rule) ts x s' us → Of width_tree width_can x
  width_of (passed e) = (None, refl, refl)
  width_of (taken e (both (marked f) (both (worded {s = s} {s' = s1} {t = t} i c) (marked h)))) =
      let n = value_of t.kind in
      (Some n, ap (λ (v : Said). Present (Pair Skip (Pair (Leaf v) Skip))) (number_is t.kind i), within_by 16 n (too_large t.place n) (Ok s) s1 (nat_lt 16 n) refl c)

  pin_of : {s s' : ℕ} {ts us : List Word} {x : Tree Said} → Rd s pin ts x s' us → AllGood ts → Of pin_tree pin_can x
  pin_of (both p q) g =
      let n = name_of p g in
      let w = width_of q in
      (record { name = n.0; width = w.0 }, (λ i. Pair (n.1 i) (w.1 i)), both_hold (name_can n.0) (width_can w.0) n.2 w.2)

  module _ {X : Type 0} (a : HdlRule) (tree : X → Tree Said) (can : X → Bool) (one : (s s' : ℕ) (ts us : List Word) (x : Tree Said) → Rd s a ts x s' us → AllGood ts → Of tree can x) where
    more_of : {s s' : ℕ} {ts us : List Word} {x : Tree Said} → Rd s (repeat (next_of a)) ts x s' us → AllGood ts → Of (λ xs. tree_of_list (next_tree tree) xs NoMore) (all can) x
    more_of (ended e) g = ([], refl, refl)
    more_of (again e (both (marked f) p) q) g =
        let y = one _ _ _ _ _ p g.1 in
        let ys = more_of q (left_good p g.1) in
        (y.0 ∷ ys.0, (λ i. More (Pair Skip (y.1 i)) (ys.1 i)), both_hold (can y.0) (all can ys.0) y.2 ys.2)

    row_of : {s s' : ℕ} {ts us : List Word} {x : Tree Said} → Rd s (row a) ts x s' us → AllGood ts → (y : X) × (ys : List X) × (x ≡ row_with tree (y ∷ ys) NoMore) × (all_of_some can (y ∷ ys) ≡ true)
    row_of (both p q) g =
        let y = one _ _ _ _ _ p g in
        let ys = more_of q (left_good p g) in
        (y.0, ys.0, (λ i. Pair (y.1 i) (ys.1 i)), both_hold (can y.0) (all can ys.0) y.2 ys.2)

    listing_of : (k : Keyword) {s s' : ℕ} {ts us : List Word} {x : Tree Said} → Rd s (option (listing k a)) ts x s' us → AllGood ts → Of (listing_tree tree) (all can) x
    listing_of k (passed e) g = ([], refl, refl)
    listing_of k (taken e (both (marked f) (both p (marked h)))) g =
        let r = row_of p g.1 in
        (r.0 ∷ r.1, ap (λ (t : Tree Said). Present (Pair Skip (Pair t Skip))) r.2, r.3)

  range_of : {s s' : ℕ} {ts us : List Word} {x : Tree Said} → Rd s range ts x s' us → Of range_tree (λ b. subscript_can (Some b)) x
  range_of (both (worded {s' = s1} {t = t} i c) (passed e)) =
      let n = value_of t.kind in
      (sub.Bit n, ap (λ (v : Said). Pair (Leaf v) Absent) (number_is t.kind i), within_by 15 n (too_large t.place n) (Ok n) s1 (nat_lt 15 n) refl c)
  range_of (both (worded {s' = s1} {t = t} i c) (taken e (both (marked f) (worded {s' = s2} {t = u} j d)))) =
      let m = value_of t.kind in
      let n = value_of u.kind in
      let behind : Result ℕ Fault = cond (nat_lt n s1) (Err (Grammar u.place)) (Ok s1) in
      let same : m ≡ s1 = counted_by m (too_large t.place m) s1 (nat_lt 15 m) c in
      let rises : nat_le s1 n ≡ true = rises_by s1 n (too_large u.place n) (Grammar u.place) s2 (nat_lt 15 n) (nat_lt n s1) refl d in
      let can = both_hold (nat_le m n) (nat_le n 15) (ap (λ (z : ℕ). nat_le z n) same ∙ rises) (within_by 15 n (too_large u.place n) behind s2 (nat_lt 15 n) refl d) in
      (sub.Bits m n, (λ k. Pair (Leaf (number_is t.kind i k)) (Present (Pair Skip (Leaf (number_is u.kind j k))))), can)

  subscript_of : {s s' : ℕ} {ts us : List Word} {x : Tree Said} → Rd s (option subscript) ts x s' us → Of subscript_tree subscript_can x
  subscript_of (passed e) = (None, refl, refl)
  subscript_of (taken e (both (marked f) (both (inside h c p) (marked k)))) =
      let r = range_of p in
      (Some r.0, ap (λ (t : Tree Said). Present (Pair Skip (Pair (Node t) Skip))) r.1, r.2)

  selection_of : {s s' : ℕ} {ts us : List Word} {x : Tree Said} → Rd s selection ts x s' us → AllGood ts → Of selection_tree selection_can x
  selection_of (both p q) g =
      let n = name_of p g in
      let b = subscript_of q in
      (record { name = n.0; subscript = b.0 }, (λ i. Pair (n.1 i) (b.1 i)), both_hold (name_can n.0) (subscript_can b.0) n.2 b.2)

  source_of : {s s' : ℕ} {ts us : List Word} {x : Tree Said} → Rd s source ts x s' us → AllGood ts → Of source_tree source_can x
  source_of (left e p) g = let n = selection_of p g in (from.Net n.0, ap Left n.1, n.2)
  source_of (right e f (worded {t = t} i c)) g = let b = constant_is t.kind i in (from.Constant b.0, ap (λ (v : Said). Right (Leaf v)) b.1, refl)

  connection_of : {s s' : ℕ} {ts us : List Word} {x : Tree Said} → Rd s connection ts x s' us → AllGood ts → Of connection_tree connection_can x
  connection_of (both p (both (marked e) q)) g =
      let n = selection_of p g in
      let behind = left_good p g in
      let z = source_of q behind.1 in
      (record { pin = n.0; source = z.0 }, (λ i. Pair (n.1 i) (Pair Skip (z.1 i))), both_hold (selection_can n.0) (source_can z.0) n.2 z.2)

  part_of : {s s' : ℕ} {ts us : List Word} {x : Tree Said} → Rd s part ts x s' us → AllGood ts → Of part_tree part_can x
  part_of (both p (both (marked e) (both q (both (marked f) (marked h))))) g =
      let n = name_of p g in
      let behind = left_good p g in
      let r = row_of connection connection_tree connection_can (λ s s' ts us x. connection_of) q behind.1 in
      let cs = r.0 ∷ r.1 in
      (record { chip = n.0; connections = cs }, (λ i. Pair (n.1 i) (Pair Skip (Pair (r.2 i) (Pair Skip Skip)))), both_hold (name_can n.0) (all_of_some connection_can cs) n.2 r.3)

  parts_of : {s s' : ℕ} {ts us : List Word} {x : Tree Said} → Rd s (repeat part) ts x s' us → AllGood ts → Of (λ ps. tree_of_list part_tree ps NoMore) (all part_can) x
  parts_of (ended e) g = ([], refl, refl)
  parts_of (again e p q) g =
      let y = part_of p g in
      let ys = parts_of q (left_good p g) in
      (y.0 ∷ ys.0, (λ i. More (y.1 i) (ys.1 i)), both_hold (part_can y.0) (all part_can ys.0) y.2 ys.2)

  body_of : {s s' : ℕ} {ts us : List Word} {x : Tree Said} → Rd s body ts x s' us → AllGood ts → Of body_tree body_can x
  body_of (left e (both (marked f) (both (marked h) p))) g =
      let ps = parts_of p g.1.1 in
      (made_of.Parts ps.0, ap (λ (t : Tree Said). Left (Pair Skip (Pair Skip t))) ps.1, ps.2)
  body_of (right e f (both (marked h) (both p (both (marked k) q)))) g =
      let n = name_of p g.1 in
      let behind = left_good p g.1 in
      let ns = listing_of name name_leaf name_can (λ s s' ts us x. name_of) keyword.Clocked q behind.1 in
      (made_of.Builtin n.0 ns.0, (λ i. Right (Pair Skip (Pair (n.1 i) (Pair Skip (ns.1 i))))), both_hold (name_can n.0) (all name_can ns.0) n.2 ns.2)

  chip_of : {s s' : ℕ} {ts us : List Word} {x : Tree Said} → Rd s chip ts x s' us → AllGood ts → Of chip_tree chip_can x
  chip_of (both (marked e) (both p (both (marked f) (both q (both r (both z (marked k))))))) g =
      let opened = left_good p g.1 in
      let outputs = left_good q opened.1 in
      let rest = left_good r outputs in
      let n = name_of p g.1 in
      let i = listing_of pin pin_tree pin_can (λ s s' ts us x. pin_of) keyword.In q opened.1 in
      let o = listing_of pin pin_tree pin_can (λ s s' ts us x. pin_of) keyword.Out r outputs in
      let b = body_of z rest in
      let can = both_hold (name_can n.0) (all pin_can i.0 && (all pin_can o.0 && body_can b.0)) n.2 (both_hold (all pin_can i.0) (all pin_can o.0 && body_can b.0) i.2 (both_hold (all pin_can o.0) (body_can b.0) o.2 b.2)) in
      (record { name = n.0; inputs = i.0; outputs = o.0; body = b.0 }, (λ j. Pair Skip (Pair (n.1 j) (Pair Skip (Pair (i.1 j) (Pair (o.1 j) (Pair (b.1 j) Skip)))))), can)

  whole_of : {s s' : ℕ} {ts us : List Word} {x : Tree Said} → Rd s whole ts x s' us → AllGood ts → Of whole_tree chip_can x
  whole_of (both p at_end) g = let c = chip_of p g in (c.0, ap (λ (t : Tree Said). Pair t Skip) c.1, c.2)

pub spelled_of : (text : List ℕ) (t : Tree Said) → SpellsTree text t → Of whole_tree chip_can t
spelled_of text t s = whole_of _ s.3 (good_tokens text s.0 s.2)

pub spelled_can : (text : List ℕ) (c : Chip) → Spells text c → chip_can c ≡ true
spelled_can text c s =
    let d = spelled_of text (whole_tree c) s in
    subst (λ (x : Chip). chip_can x ≡ true) (sym (apart c d.0 d.1)) d.2

pub spelled_again : (text : List ℕ) (c : Chip) → Spells text c → length (chip_text c) ≤ 1048576 → Spells (chip_text c) c
spelled_again text c s small = printed_spells c (spelled_can text c s) small

pub read_can : (text : List ℕ) (r : Result Chip ReadError) → IfOk r (Spells text) → IfOk r (λ c. chip_can c ≡ true)
read_can text (Ok c) h = spelled_can text c h
read_can text (Err e) h = tt

pub read_again : (text : List ℕ) (r : Result Chip ReadError) → IfOk r (Spells text) → IfOk r (λ c. length (chip_text c) ≤ 1048576 → Spells (chip_text c) c)
read_again text (Ok c) h = spelled_again text c h
read_again text (Err e) h = tt
