-- An evaluation takes no more than what was touched.
use Rattle.std.proofs.Common.{◌≡◌, ℕ, zero, suc, ◌<◌, ◌≤◌, Bool, true, false, List, [], ◌∷◌, length, Some, None, Option, refl, ap, sym, ◌∙◌, arith, subst, eq-eqb, ◌||◌}
use Rattle.std.specs.Prelude.{slice_get, nat_eq, is_some}
use Rattle.std.specs.List.{All, list_any, count_by}
use Rattle.std.proofs.lemmas.Option.{slice_get_within}
use Rattle.std.proofs.lemmas.Bool.{false≢true, or_left, or_right}
use Rattle.std.proofs.lemmas.List.Elements.{All-head, All-tail, All-nil, All-cons, All-weaker}
use Rattle.netlist.specs.declared.node.Node.{Node}
use Rattle.netlist.specs.declared.node.Node.TheVariants.{Pin, Nand, Flip, Word, Zero}
use Rattle.netlist.specs.declared.node.Block.{Block}
use Rattle.netlist.specs.declared.step.BlockWrite.{BlockWrite}
use Rattle.netlist.specs.Net.{Net}
use Rattle.netlist.specs.Order.{AreOrdered, FitsAt}
use Rattle.netlist.specs.Present.{value_in}
use Rattle.netlist.specs.Reads.{reads_of}
use Rattle.netlist.specs.Steps.{after_write, write_at}
use Rattle.netlist.specs.Touched.{is_other, is_step, is_touched, is_written}
use Rattle.netlist.specs.Value.{is_loaded, address_of, word_in}
use Rattle.hdl_tree.specs.Memory.{word_written}
use Rattle.netlist.specs.Inner.Taken.{is_taken}
use Rattle.netlist.proofs.Following.{count_weaker, taken_step, address_early}
use Rattle.gate_sim.specs.Calls.{Call, cycle_of, evaluated_calls, was_set, was_put}
use Rattle.gate_sim.specs.Calls.Call.{Tock}
use Rattle.gate_sim.specs.Values.{AreValues, written_before}
use Rattle.gate_sim.specs.Touched.{stores_at, was_written, differs, AreFewSteps}
use Rattle.gate_sim.specs.Stands.{Keeps, IsFresh, StandsFor}
use Rattle.gate_sim.specs.Inner.Evaluated.{IsEvaluated, taken_by}
use Rattle.gate_sim.specs.State.{SimState}

-- ---- what is stored is what was loaded

writes_here : (x : BlockWrite) (old : ℕ) → after_write (Some x) x.address old ≡ x.word
writes_here x old = let t : nat_eq x.address x.address ≡ true = eq-eqb x.address x.address refl in rw t refl

stored : (blocks : List Block) (w : ℕ → ℕ → Bool) (n b : ℕ) (o : Option BlockWrite) → ((a old : ℕ) → after_write o a old ≡ written_before blocks w n b a old) → is_some o ≡ true → stores_at blocks w n b ≡ true
stored blocks w n b None same e = absurd (false≢true e)
stored blocks w zero b (Some x) same e =
    let h : x.word ≡ suc x.word = sym (writes_here x (suc x.word)) ∙ same x.address (suc x.word) in
    absurd (omega arith)
stored blocks w (suc c) b (Some x) same e = go (is_loaded (slice_get blocks b) (λ i. w i c)) refl
  where
    go : (l : Bool) → is_loaded (slice_get blocks b) (λ i. w i c) ≡ l → is_loaded (slice_get blocks b) (λ i. w i c) ≡ true
    go true is = is
    go false is =
        let row : ℕ → Bool = λ i. w i c in
        let o = slice_get blocks b in
        let h : x.word ≡ suc x.word = sym (writes_here x (suc x.word)) ∙ same x.address (suc x.word) ∙ ap (λ l. word_written l (address_of o row) (word_in o row) x.address (suc x.word)) is in
        absurd (omega arith)

pub stored_is_loaded : (s : SimState) (calls : List Call) (w : ℕ → ℕ → Bool) (b : ℕ) → Keeps s calls → AreValues s.net (Tock ∷ calls) w → is_some (write_at s.writes b) ≡ true → stores_at s.net.blocks w (cycle_of (Tock ∷ calls)) b ≡ true
stored_is_loaded s calls w b keeps are e = stored s.net.blocks w (cycle_of (Tock ∷ calls)) b (write_at s.writes b) (keeps.writes w are.0 b) e

-- ---- fewer are touched where fewer differ

list_any_weaker : (f g : ℕ → Bool) (xs : List ℕ) → All (λ i. f i ≡ true → g i ≡ true) xs → list_any f xs ≡ true → list_any g xs ≡ true
list_any_weaker f g [] all e = e
list_any_weaker f g (x ∷ xs) all e =
    go (f x) refl (list_any_weaker f g xs (All-tail (λ i. f i ≡ true → g i ≡ true) x xs all))
  where
    go : (b : Bool) → f x ≡ b → (list_any f xs ≡ true → list_any g xs ≡ true) → list_any g (x ∷ xs) ≡ true
    go true is rest = or_left (g x) (list_any g xs) (All-head (λ i. f i ≡ true → g i ≡ true) x xs all is)
    go false is rest = or_right (g x) (list_any g xs) (rest (ap (λ b. b || list_any f xs) (sym is) ∙ e))

written_weaker : (f g : ℕ → Bool) (node : Node) → ((b : ℕ) → f b ≡ true → g b ≡ true) → is_written f node ≡ true → is_written g node ≡ true
written_weaker f g Pin all e = e
written_weaker f g (Nand i j) all e = e
written_weaker f g (Flip i) all e = e
written_weaker f g (Word b bit) all e = all b e
written_weaker f g Zero all e = e

touched_weaker : (blocks : List Block) (f g x y : ℕ → Bool) (node : Node) → All (λ i. f i ≡ true → g i ≡ true) (reads_of blocks node) → ((b : ℕ) → x b ≡ true → y b ≡ true) → is_touched blocks f x node ≡ true → is_touched blocks g y node ≡ true
touched_weaker blocks f g x y node reads written e = go (list_any f (reads_of blocks node)) refl
  where
    go : (b : Bool) → list_any f (reads_of blocks node) ≡ b → is_touched blocks g y node ≡ true
    go true is = or_left (list_any g (reads_of blocks node)) (is_written y node) (list_any_weaker f g (reads_of blocks node) reads is)
    go false is = or_right (list_any g (reads_of blocks node)) (is_written y node) (written_weaker x y node written (ap (λ b. b || is_written x node) (sym is) ∙ e))

reads_early : (blocks : List Block) (k n : ℕ) (node : Node) → FitsAt k n blocks node → All (λ i. i < k) (reads_of blocks node)
reads_early blocks k n Pin fits = All-nil (λ i. i < k)
reads_early blocks k n (Nand i j) fits = All-cons (λ i. i < k) i (j ∷ []) fits.0 (All-cons (λ i. i < k) j [] fits.1 (All-nil (λ i. i < k)))
reads_early blocks k n (Flip i) fits = All-nil (λ i. i < k)
reads_early blocks k n (Word b bit) fits = address_early (slice_get blocks b) k n fits.1
reads_early blocks k n Zero fits = All-nil (λ i. i < k)

module _ (net : Net) (calls : List Call) (call : Call) (taken : ℕ) (whole : Bool) (values new written : List Bool) (ordered : AreOrdered net.nodes net.blocks) (begun : (told : List Call) → evaluated_calls calls ≡ Some told → whole ≡ false) (old : (told : List Call) → evaluated_calls calls ≡ Some told → (v : ℕ → ℕ → Bool) → AreValues net told v → (k : ℕ) → k < length net.nodes → value_in values k ≡ v k (cycle_of told)) (now : (w : ℕ → ℕ → Bool) → AreValues net (call ∷ calls) w → (k : ℕ) → k < length net.nodes → value_in new k ≡ w k (cycle_of (call ∷ calls))) (marked : (told : List Call) (w : ℕ → ℕ → Bool) → evaluated_calls calls ≡ Some told → AreValues net (call ∷ calls) w → (b : ℕ) → value_in written b ≡ true → was_written net.blocks w calls call b ≡ true) (bound : taken ≤ count_by (is_taken whole net.blocks (λ k. is_other (value_in values k) (value_in new k)) (value_in written)) net.nodes) where
  later : (told : List Call) (v w : ℕ → ℕ → Bool) → evaluated_calls calls ≡ Some told → AreValues net told v → AreValues net (call ∷ calls) w → taken ≤ count_by (is_touched net.blocks (differs net.nodes calls told call v w) (was_written net.blocks w calls call)) net.nodes
  later told v w e at_told at_now =
      let stored_differs : ℕ → Bool = λ k. is_other (value_in values k) (value_in new k) in
      let other : (i : ℕ) → i < length net.nodes → stored_differs i ≡ true → differs net.nodes calls told call v w i ≡ true = λ i less d.
      or_right (was_set net.nodes calls i) (is_other (v i (cycle_of told)) (w i (cycle_of (call ∷ calls)))) (sym (ap (λ x. is_other x (value_in new i)) (old told e v at_told i less) ∙ ap (is_other (v i (cycle_of told))) (now w at_now i less)) ∙ d) in
      let fewer = count_weaker (is_taken whole net.blocks stored_differs (value_in written)) (is_touched net.blocks (differs net.nodes calls told call v w) (was_written net.blocks w calls call)) net.nodes
      (λ k node at t.
      let inside = slice_get_within net.nodes k node at in
      touched_weaker net.blocks stored_differs (differs net.nodes calls told call v w) (value_in written) (was_written net.blocks w calls call) node
      (All-weaker (λ i. i < k) (λ i. stored_differs i ≡ true → differs net.nodes calls told call v w i ≡ true) (λ i less. other i (omega arith)) (reads_of net.blocks node) (reads_early net.blocks k (length net.nodes) node (ordered.fit k node at)))
      (marked told w e at_now)
      (ap (λ x. is_taken x net.blocks stored_differs (value_in written) node) (sym (begun told e)) ∙ t)) in
      omega arith

  pub few : AreFewSteps net calls call taken
  few =
      let all = count_weaker (is_taken whole net.blocks (λ k. is_other (value_in values k) (value_in new k)) (value_in written)) is_step net.nodes (λ k node at t. taken_step whole net.blocks (λ k. is_other (value_in values k) (value_in new k)) (value_in written) node t) in
      record { first = omega arith; later = later }

-- of a simulator: s before the call, m where the evaluation begins, t where it ends
pub few_sim : (s m t : SimState) (calls : List Call) (call : Call) (taken : ℕ) → StandsFor s calls → m.net ≡ s.net → m.values ≡ s.values → m.whole ≡ s.whole → IsEvaluated t → t.net ≡ s.net → IsFresh t (call ∷ calls) → ((told : List Call) (w : ℕ → ℕ → Bool) → evaluated_calls calls ≡ Some told → AreValues s.net (call ∷ calls) w → (b : ℕ) → value_in m.written b ≡ true → was_written s.net.blocks w calls call b ≡ true) → taken ≤ taken_by m t.values → AreFewSteps s.net calls call taken
few_sim s m t calls call taken stands net values whole is same fresh marked bound =
    few s.net calls call taken s.whole s.values t.values m.written
    (subst (λ n. AreOrdered n.nodes n.blocks) same is.ordered)
    stands.marks.begun
    stands.values
    (λ w are k less. fresh w (subst (λ n. AreValues n (call ∷ calls) w) (sym same) are) k (subst (λ n. k < length n.nodes) (sym same) less))
    marked
    (subst (λ n. taken ≤ count_by (is_taken s.whole n.blocks (λ k. is_other (value_in s.values k) (value_in t.values k)) (value_in m.written)) n.nodes) net
    (subst (λ l. taken ≤ count_by (is_taken s.whole m.net.blocks (λ k. is_other (value_in l k) (value_in t.values k)) (value_in m.written)) m.net.nodes) values
    (subst (λ x. taken ≤ count_by (is_taken x m.net.blocks (λ k. is_other (value_in m.values k) (value_in t.values k)) (value_in m.written)) m.net.nodes) whole bound)))

-- the blocks that are marked when a tock evaluates
pub marked_tock : (s : SimState) (calls told : List Call) (w : ℕ → ℕ → Bool) (b : ℕ) (x : Bool) → StandsFor s calls → evaluated_calls calls ≡ Some told → AreValues s.net (Tock ∷ calls) w → x ≡ (value_in s.written b || is_some (write_at s.writes b)) → x ≡ true → was_written s.net.blocks w calls Tock b ≡ true
marked_tock s calls told w b x stands e are is m = go (value_in s.written b) refl
  where
    go : (y : Bool) → value_in s.written b ≡ y → was_written s.net.blocks w calls Tock b ≡ true
    go true old = or_left (was_put calls b) (stores_at s.net.blocks w (cycle_of (Tock ∷ calls)) b) (stands.marks.blocks told e b old)
    go false old =
        or_right (was_put calls b) (stores_at s.net.blocks w (cycle_of (Tock ∷ calls)) b)
        (stored_is_loaded s calls w b stands.keeps are (sym (ap (λ y. y || is_some (write_at s.writes b)) old) ∙ (sym is ∙ m)))
