-- Which nodes are marked after each call.
use Rattle.std.proofs.Common.{◌≡◌, ◌≢◌, ◌+◌, ◌-◌, ◌<◌, ◌≤◌, ℕ, Bool, true, false, List, [], ◌∷◌, length, set, Some, None, Option, Vec, refl, ap, sym, ◌∙◌, subst, arith, ne_eqb, eq-eqb, inl, inr, get_or-set_same, get_or-set_other, ◌||◌}
use Rattle.std.specs.Prelude.{slice_get, slice_index, nat_eq, nat_lt, nat_le, is_some, not, ◌==◌, ◌&&◌, ◌⊎◌, if◌then◌else◌}
use Rattle.std.specs.Global.{Global}
use Rattle.std.proofs.lemmas.Option.{none-some}
use Rattle.std.proofs.lemmas.Bool.{cases_eq, cases_lt, false≢true, or_left, or_right, or_parts, and_left, and_right}
use Rattle.std.proofs.lemmas.Bool.Decides.{nat_tests}
use Rattle.netlist.specs.declared.node.Node.{Node}
use Rattle.netlist.specs.declared.node.Node.TheVariants.{Pin, Nand, Flip, Word, Zero}
use Rattle.std.specs.List.{count_by}
use Rattle.netlist.specs.declared.node.Block.{Block}
use Rattle.netlist.specs.Inner.Taken.{is_taken}
use Rattle.netlist.specs.Present.{IsRow, value_in}
use Rattle.netlist.specs.Touched.{is_other}
use Rattle.netlist.specs.declared.step.BlockWrite.{BlockWrite}
use Rattle.netlist.specs.Histories.{rank}
use Rattle.netlist.specs.Net.{Net}
use Rattle.netlist.specs.Settled.{AreSettled}
use Rattle.netlist.specs.Steps.{after_write, write_at}
use Rattle.netlist.specs.Words.{after_load, word_at}
use Rattle.netlist.proofs.Following.{other_self, settled_words}
use Rattle.gate_sim.specs.Calls.{Call, evaluated_calls, was_set, was_put}
use Rattle.gate_sim.specs.Calls.Call.{Load, Set}
use Rattle.gate_sim.specs.Marks.{is_marked, may_be_marked, AreMarksRight}
use Rattle.gate_sim.specs.State.{SimState}
use Rattle.gate_sim.specs.Inner.Evaluated.{IsEvaluated, taken_by}
use Rattle.gate_sim.proofs.Inputs.{set_more}

pub marks_new : (s : SimState) → AreMarksRight s []
marks_new s = record {
  begun = λ told e. absurd (none-some told e);
  right = λ told e. absurd (none-some told e);
  blocks = λ told e. absurd (none-some told e);
}

no_other : (x y : Bool) → x ≡ y → is_other x y ≡ true → ⊥
no_other x y same e = false≢true (sym (other_self y) ∙ ap (λ z. is_other z y) (sym same) ∙ e)

-- an evaluation leaves no mark
pub marks_after : (s : SimState) (calls : List Call) → IsEvaluated s → AreMarksRight s calls
marks_after s calls is = record {
  begun = λ told e. is.begun;
  right = λ told e k node at m. absurd (none k node at m);
  blocks = λ told e b m. absurd (false≢true (sym (is.unwritten b) ∙ m));
}
  where
    none : (k : ℕ) (node : Node) → slice_get s.net.nodes k ≡ Some node → is_marked s k node ≡ true → ⊥
    none k Pin at m = no_other (value_in s.start k) (value_in s.values k) (sym (is.row k Pin at)) m
    none k (Nand i j) at m = false≢true m
    none k (Flip i) at m = no_other (value_in s.start k) (value_in s.values k) (sym (is.row k (Flip i) at)) m
    none k (Word b bit) at m = false≢true (sym (is.unwritten b) ∙ m)
    none k Zero at m = false≢true m

pin_is_no_flip : (nodes : List Node) (node k i : ℕ) → slice_get nodes node ≡ Some Pin → slice_get nodes k ≡ Some (Flip i) → k ≢ node
pin_is_no_flip nodes node k i p f e = cc

pub marks_set : (s : SimState) (calls : List Call) (node : ℕ) (bit : Bool) → slice_get s.net.nodes node ≡ Some Pin → AreMarksRight s calls → AreMarksRight (record s { start = set s.start node bit; fresh = false }) (Set (rank s.net.nodes node) bit ∷ calls)
marks_set s calls node bit pin marks = record { begun = marks.begun; right = right; blocks = marks.blocks }
  where
    right : (told : List Call) → evaluated_calls calls ≡ Some told → (k : ℕ) (n : Node) → slice_get s.net.nodes k ≡ Some n → is_marked (record s { start = set s.start node bit; fresh = false }) k n ≡ true → may_be_marked s.net.nodes (Set (rank s.net.nodes node) bit ∷ calls) k n ≡ true
    right told e k Pin at m =
        set_more s.net.nodes calls node bit pin k
        ∙ elim (cases_eq node k) [
          | inl same ↦ or_left (nat_eq node k) (was_set s.net.nodes calls k) (eq-eqb node k same)
          | inr ne ↦
              or_right (nat_eq node k) (was_set s.net.nodes calls k) (marks.right told e k Pin at (ap (λ x. is_other x (value_in s.values k)) (sym (get_or-set_other s.start node k bit false (λ same. ne (sym same)))) ∙ m))
        ]
    right told e k (Nand i j) at m = absurd (false≢true m)
    right told e k (Flip i) at m =
        absurd (false≢true (marks.right told e k (Flip i) at (ap (λ x. is_other x (value_in s.values k)) (sym (get_or-set_other s.start node k bit false (pin_is_no_flip s.net.nodes node k i pin at))) ∙ m)))
    right told e k (Word b at') at m = marks.right told e k (Word b at') at m
    right told e k Zero at m = absurd (false≢true m)

pub marks_load : (s : SimState) (calls : List Call) (block from : ℕ) (words : List ℕ) (memory : List (Vec ℕ Global)) (written : List Bool) → ((b : ℕ) → value_in written b ≡ true → ((nat_eq block b && nat_lt 0 (length words)) ≡ true) ⊎ (value_in s.written b ≡ true)) → AreMarksRight s calls → AreMarksRight (record s { memory = memory; fresh = false; written = written }) (Load block from words ∷ calls)
marks_load s calls block from words memory written marked marks = record { begun = marks.begun; right = right; blocks = put }
  where
    put : (told : List Call) → evaluated_calls calls ≡ Some told → (b : ℕ) → value_in written b ≡ true → was_put (Load block from words ∷ calls) b ≡ true
    put told e b m =
        elim (marked b m) [
          | inl here ↦ or_left (nat_eq block b && nat_lt 0 (length words)) (was_put calls b) here
          | inr old ↦ or_right (nat_eq block b && nat_lt 0 (length words)) (was_put calls b) (marks.blocks told e b old)
        ]

    right : (told : List Call) → evaluated_calls calls ≡ Some told → (k : ℕ) (n : Node) → slice_get s.net.nodes k ≡ Some n → is_marked (record s { memory = memory; fresh = false; written = written }) k n ≡ true → may_be_marked s.net.nodes (Load block from words ∷ calls) k n ≡ true
    right told e k Pin at m = marks.right told e k Pin at m
    right told e k (Nand i j) at m = absurd (false≢true m)
    right told e k (Flip i) at m = marks.right told e k (Flip i) at m
    right told e k (Word b at') at m = put told e b m
    right told e k Zero at m = absurd (false≢true m)

-- ---- the words of blocks that are not marked stay

pub mark_put : (list : List Bool) (block b : ℕ) (some : Bool) → block < length list → value_in (set list block (value_in list block || some)) b ≡ true → ((nat_eq block b && some) ≡ true) ⊎ (value_in list b ≡ true)
mark_put list block b some inside m =
    elim (cases_eq block b) [
      | inl same ↦
          let t = eq-eqb block b same in
          let here : (value_in list b || some) ≡ true = ap (λ x. value_in list x || some) (sym same) ∙ sym (get_or-set_same list block (value_in list block || some) false inside) ∙ ap (value_in (set list block (value_in list block || some))) same ∙ m in
          go (value_in list b) refl t here
      | inr ne ↦ inr (sym (get_or-set_other list block b (value_in list block || some) false (λ e. ne (sym e))) ∙ m)
    ]
  where
    go : (x : Bool) → value_in list b ≡ x → nat_eq block b ≡ true → (value_in list b || some) ≡ true → ((nat_eq block b && some) ≡ true) ⊎ (value_in list b ≡ true)
    go true is t here = inr is
    go false is t here = inl (ap (λ x. x && some) t ∙ (ap (λ x. x || some) (sym is) ∙ here))

unmarked_put : (list : List Bool) (block b : ℕ) (some : Bool) → block < length list → value_in (set list block (value_in list block || some)) b ≡ false → ((nat_eq block b && some) ≡ false) × (value_in list b ≡ false)
unmarked_put list block b some inside m =
    elim (cases_eq block b) [
      | inl same ↦
          let here : (value_in list b || some) ≡ false = ap (λ x. value_in list x || some) (sym same) ∙ sym (get_or-set_same list block (value_in list block || some) false inside) ∙ ap (value_in (set list block (value_in list block || some))) same ∙ m in
          let parts = or_parts (value_in list b) some here in
          (and_right (nat_eq block b) some parts.1, parts.0)
      | inr ne ↦ (and_left (nat_eq block b) some (ne_eqb block b ne), sym (get_or-set_other list block b (value_in list block || some) false (λ e. ne (sym e))) ∙ m)
    ]

load_same : (block from : ℕ) (words : List ℕ) (b a old : ℕ) → (nat_eq block b && nat_lt 0 (length words)) ≡ false → after_load block from words b a old ≡ old
load_same block from (word ∷ words) b a old none = go (nat_eq block b) (ap (λ y. nat_eq block b && y) (sym some) ∙ none)
  where
    some : nat_lt 0 (length (word ∷ words)) ≡ true
    some = grind (arith, nat_tests)

    go : (x : Bool) → (x && true) ≡ false → (if x && (nat_le from a && nat_lt a (from + length (word ∷ words))) then slice_index (word ∷ words) (a - from) else old) ≡ old
    go true e = absurd (false≢true (sym e))
    go false e = refl
load_same block from [] b a old none =
    let f : (nat_le from a && nat_lt a (from + 0)) ≡ false = elim (cases_lt a from) [ inl less ↦ and_left (nat_le from a) (nat_lt a (from + 0)) (grind (arith, nat_tests)) | inr le ↦ and_right (nat_le from a) (nat_lt a (from + 0)) (grind (arith, nat_tests)) ] in
    let g : (nat_eq block b && (nat_le from a && nat_lt a (from + 0))) ≡ false = and_right (nat_eq block b) (nat_le from a && nat_lt a (from + 0)) f in
    rw g refl

pub settled_load : (net : Net) (list : List Bool) (memory new : List (Vec ℕ Global)) (row : ℕ → Bool) (block from : ℕ) (put : List ℕ) (x : Bool) → block < length list → x ≡ (value_in list block || nat_lt 0 (length put)) → ((b a : ℕ) → word_at new b a ≡ after_load block from put b a (word_at memory b a)) → AreSettled net.nodes net.blocks (value_in list) (word_at memory) row → AreSettled net.nodes net.blocks (value_in (set list block x)) (word_at new) row
settled_load net list memory new row block from put x inside e is settled =
    subst (λ y. AreSettled net.nodes net.blocks (value_in (set list block y)) (word_at new) row) (sym e)
    (settled_words net.nodes net.blocks (value_in list) (value_in (set list block (value_in list block || nat_lt 0 (length put)))) (word_at memory) (word_at new) row
    (λ b off. (unmarked_put list block b (nat_lt 0 (length put)) inside off).1)
    (λ b a off. is b a ∙ load_same block from put b a (word_at memory b a) (unmarked_put list block b (nat_lt 0 (length put)) inside off).0)
    settled)

pub settled_take : (net : Net) (list more : List Bool) (writes : List (Option BlockWrite)) (memory new : List (Vec ℕ Global)) (row : ℕ → Bool) → ((b : ℕ) → value_in more b ≡ (value_in list b || is_some (write_at writes b))) → ((b a : ℕ) → word_at new b a ≡ after_write (write_at writes b) a (word_at memory b a)) → AreSettled net.nodes net.blocks (value_in list) (word_at memory) row → AreSettled net.nodes net.blocks (value_in more) (word_at new) row
settled_take net list more writes memory new row marks is settled =
    settled_words net.nodes net.blocks (value_in list) (value_in more) (word_at memory) (word_at new) row
    (λ b off. (parts b off).0)
    (λ b a off. is b a ∙ unwritten (write_at writes b) a (word_at memory b a) (parts b off).1)
    settled
  where
    parts : (b : ℕ) → value_in more b ≡ false → (value_in list b ≡ false) × (is_some (write_at writes b) ≡ false)
    parts b off = or_parts (value_in list b) (is_some (write_at writes b)) (sym (marks b) ∙ off)

    unwritten : (o : Option BlockWrite) (a old : ℕ) → is_some o ≡ false → after_write o a old ≡ old
    unwritten None a old e = refl
    unwritten (Some x) a old e = absurd (false≢true (sym e))

pub some_words : (n : ℕ) → not (n == 0) ≡ nat_lt 0 n
some_words n = elim (cases_eq n 0) [
  | inl e ↦ let t : (n == 0) ≡ true = eq-eqb n 0 e in let f : nat_lt 0 n ≡ false = grind (arith, nat_tests) in rw (t, f) refl
  | inr ne ↦ let f : (n == 0) ≡ false = ne_eqb n 0 ne in let t : nat_lt 0 n ≡ true = grind (arith, nat_tests) in rw (t, f) refl
]

-- ---- what an evaluation leaves, with its lists under other names

pub row_moved : (nodes nodes' : List Node) (blocks blocks' : List Block) (start start' : List Bool) (memory memory' : List (Vec ℕ Global)) (values values' : List Bool) → nodes' ≡ nodes → blocks' ≡ blocks → start' ≡ start → memory' ≡ memory → values' ≡ values → IsRow nodes' blocks' (value_in start') (word_at memory') (value_in values') → IsRow nodes blocks (value_in start) (word_at memory) (value_in values)
row_moved nodes nodes' blocks blocks' start start' memory memory' values values' en eb es em ev row =
    subst (λ x. IsRow x blocks (value_in start) (word_at memory) (value_in values)) en
    (subst (λ x. IsRow nodes' x (value_in start) (word_at memory) (value_in values)) eb
    (subst (λ x. IsRow nodes' blocks' (value_in x) (word_at memory) (value_in values)) es
    (subst (λ x. IsRow nodes' blocks' (value_in start') (word_at x) (value_in values)) em
    (subst (λ x. IsRow nodes' blocks' (value_in start') (word_at memory') (value_in x)) ev row))))

pub taken_moved : (whole : Bool) (nodes nodes' : List Node) (blocks blocks' : List Block) (old old' new new' written written' : List Bool) → nodes' ≡ nodes → blocks' ≡ blocks → old' ≡ old → new' ≡ new → written' ≡ written → count_by (is_taken whole blocks' (λ k. is_other (value_in old' k) (value_in new' k)) (value_in written')) nodes' ≡ count_by (is_taken whole blocks (λ k. is_other (value_in old k) (value_in new k)) (value_in written)) nodes
taken_moved whole nodes nodes' blocks blocks' old old' new new' written written' en eb eo ew em = rw (en, eb, eo, ew, em) refl

pub taken_seen : (s s' : SimState) (values : List Bool) (new old n : ℕ) → s ≡ s' → new ≡ old + n → n ≡ taken_by s values → new ≤ old + taken_by s' values
taken_seen s s' values new old n same e is = subst (λ x. new ≤ old + taken_by x values) same (omega arith)
