-- Where a program is tame the levels agree.
use Rattle.std.proofs.Common.{◌≡◌, ◌≤◌, ◌*◌, ℕ, zero, suc, List, [], Some, refl, sym, ap, subst, ◌∙◌, arith, lit<}
use Rattle.simulation.specs.System.{IsData, IsKey, Tame}
use Rattle.simulation.specs.Trace.{Trace, steps, heard_keys, point_at}
use Rattle.simulation.specs.Headline.{Agrees}
use Rattle.jack_meaning.specs.Meaning.{State, start}
use Rattle.jack_meaning.specs.Text.{Program}
use Rattle.jack_meaning.specs.Gap.{IsGap, IsMost, gap}
use Rattle.jack_core.specs.declared.program.Core.{Core}
use Rattle.jack_core.specs.Texts.{the_program}
use Rattle.vm_link.specs.declared.linked.Linked.{Linked}
use Rattle.image_map.specs.Map.{the_map}
use Rattle.image_map.specs.Computer.{run_trace, run_word}
use Rattle.tower.specs.Resolved.{ResolvedLaw}
use Rattle.tower.specs.Image.{ComputerLaw}
use Rattle.tower.specs.VmRun.{MakesMoves, VmFollows, VmLaw, vm_trace, vm_word}
use Rattle.gate_computer.specs.Laws.{SeenLaw}
use Rattle.nand_cli.specs.Commands.Gates.{meaning_in}
use Rattle.nand_cli.specs.Commands.SoakLevels.{no_keys, View, AreAlike, silent_trace, gates_view, hack_view, after_steps, IsJustAfter, AtFirst, BehindCommit}
use Rattle.nand_cli.specs.Commands.Soak.{soak_files, soak_source}
use Rattle.nand_cli.proofs.FolderResolved.{folder_resolved}
use Rattle.soak_outcome.specs.Laws.{AgreeLaw}
use Rattle.soak_outcome.proofs.Silent.{AreZero, heard_zero, found, tame_there}
use Rattle.soak_outcome.proofs.Commits.{next_commit, counted, counts}

-- ---- A program has one gap

one_most : (p : Program) (f : ℕ → ℕ) (m n : ℕ) → IsMost p f m → IsMost p f n → m ≡ n
one_most p f m n h k =
    let a : m ≤ n = (let r = h.reached in let b = k.bounds r.0 r.1 in let e = r.2 in omega (arith, b, e)) in
    let b : n ≤ m = (let r = k.reached in let b = h.bounds r.0 r.1 in let e = r.2 in omega (arith, b, e)) in
    omega (arith, a, b)

one_gap : (p : Program) (m n : ℕ) → IsGap p m → IsGap p n → m ≡ n
one_gap p m n h k =
    let d = one_most p _ h.depth k.depth h.deepest k.deepest in
    let l = one_most p _ h.most_locals k.most_locals h.most k.most in
    h.sum ∙ (λ i. gap (d i) (l i)) ∙ sym k.sum

keys_are : (c : ℕ) → IsKey (no_keys c)
keys_are c = lit< tt

module _ (core : Core) where
  abbrev T : List ℕ → ℕ → Type 0
  T ks m = Tame (meaning_in core) (start (the_program core)) ks m

  fewer : (ks : List ℕ) (m n : ℕ) → m ≤ n → T ks n → T ks m
  fewer ks m n h t j le = t j (omega (arith, h, le))

  -- ---- The virtual machine comes after its m-th commit

  module _ (linked : Linked) (vm : (n : ℕ) → MakesMoves linked no_keys n → VmFollows (the_program core) linked no_keys n) (most : ℕ) (is_gap : IsGap (the_program core) most) where
    abbrev V : Trace
    V = vm_trace linked no_keys

    record Comes (m : ℕ) : Type 0 where
      moves : ℕ
      few : moves ≤ m * most
      made : MakesMoves linked no_keys moves
      behind : IsJustAfter V m moves

    quiet : (n : ℕ) → AreZero (heard_keys V n)
    quiet n = heard_zero V (λ c. refl) n

    comes : (m : ℕ) → T [] m → Comes m
    comes zero t = record { moves = 0; few = omega arith; made = λ c h. absurd (omega arith); behind = AtFirst }
    comes (suc m) t =
        let before = comes m (fewer [] m (suc m) (omega arith) t) in
        let n = before.moves in
        let same : steps V n ≡ m = counts V m n before.behind in
        let f = vm n before.made in
        let gaps : f.most ≡ most = one_gap (the_program core) f.most most f.gap is_gap in
        let tame : T (heard_keys V n) (suc (steps V n)) = subst (λ (j : ℕ). T (heard_keys V n) (suc j)) (sym same) (tame_there (meaning_in core) (start (the_program core)) (heard_keys V n) (quiet n) (suc m) t) in
        let g = f.goes_on tame in
        let next = next_commit V g.0 n g.3 in
        let total : suc (steps V next.at) ≡ suc m = ap suc (next.none_before ∙ same) in
        record {
          moves = suc next.at;
          few = (let a = before.few in let b = g.1 in let s = next.soon in let e = gaps in omega (arith, a, b, s, e));
          made = λ c h. g.2 c (let s = next.soon in omega (arith, s, h));
          behind = subst (λ (j : ℕ). IsJustAfter V j (suc next.at)) (counted V next.at next.commits ∙ total) (BehindCommit next.at next.commits);
        }

-- ---- Views of one state of the meaning are alike

-- the words and the point that a trace shows are those of the meaning after m steps
record Like (core : Core) (m : ℕ) (v : View) : Type 0 where
  state : State
  after : after_steps (meaning_in core) (start (the_program core)) m ≡ Some state
  words : (a : ℕ) → IsData a → v.word a ≡ (meaning_in core).word state a
  point : v.point ≡ (meaning_in core).point state

like : (core : Core) (t : Trace) (word : ℕ → ℕ → ℕ) (n m : ℕ) → steps t n ≡ m → AreZero (heard_keys t n) → Agrees (meaning_in core) (start (the_program core)) t word n
    → Like core m (record { word = word n; point = point_at t n })
like core t word n m e z h = record {
  state = h.after.state;
  after = subst (λ (j : ℕ). after_steps (meaning_in core) (start (the_program core)) j ≡ Some h.after.state) e (found (meaning_in core) (start (the_program core)) (heard_keys t n) z (steps t n) h.after h.run);
  words = h.words;
  point = h.point;
}

same_state : (core : Core) (m : ℕ) (v w : View) → Like core m v → Like core m w → AreAlike v w
same_state core m v w h k =
    let both : Some h.state ≡ Some k.state = sym h.after ∙ k.after in
    let same : h.state ≡ k.state = cc in
    record {
      words = λ a d. h.words a d ∙ ap (λ (s : State). (meaning_in core).word s a) same ∙ sym (k.words a d);
      point = h.point ∙ ap (meaning_in core).point same ∙ sym k.point;
    }

module _ (resolved_law : ResolvedLaw) (computer : ComputerLaw) (vm_law : VmLaw) (seen : SeenLaw) where
  pub agree : AgreeLaw
  agree seed number text core image is_program means is_image n k wires long behaves tame most bound is_gap fits =
      let right = folder_resolved resolved_law (Some (soak_files text)) soak_source core means in
      let same = seen image.words (the_map image.map) no_keys k wires behaves n long in
      let alike : AreAlike (gates_view image n wires) (hack_view image n) = record { words = λ a d. same.words a d.1; point = same.counts.point_is } in
      let t = run_trace image.words (the_map image.map) no_keys in
      let m = steps (silent_trace image wires) n in
      let count : steps t n ≡ m = sym same.counts.steps_are in
      let silent : AreZero (heard_keys t n) = heard_zero t (λ c. refl) n in
      let follows = computer core image right is_image no_keys keys_are n in
      let tame_hack : Tame (meaning_in core) (start (the_program core)) (heard_keys t n) (steps t n) = subst (λ (j : ℕ). Tame (meaning_in core) (start (the_program core)) (heard_keys t n) j) (sym count) (tame_there (meaning_in core) (start (the_program core)) (heard_keys t n) silent m tame) in
      let hack = like core t (run_word image.words no_keys) n m count silent (follows.2.agrees tame_hack) in
      let gates : Like core m (gates_view image n wires) = record {
        state = hack.state;
        after = hack.after;
        words = λ a d. alike.words a d ∙ hack.words a d;
        point = alike.point ∙ hack.point;
      } in
      let linked = is_image.linked in
      let vm = λ (j : ℕ) (made : MakesMoves linked no_keys j). vm_law core linked right is_image.links no_keys keys_are j made in
      let there = comes core linked vm most is_gap m tame in
      let v = vm_trace linked no_keys in
      let moves = there.moves in
      let at : steps v moves ≡ m = counts v m moves there.behind in
      let hushed : AreZero (heard_keys v moves) = heard_zero v (λ c. refl) moves in
      let tame_vm : Tame (meaning_in core) (start (the_program core)) (heard_keys v moves) (steps v moves) = subst (λ (j : ℕ). Tame (meaning_in core) (start (the_program core)) (heard_keys v moves) j) (sym at) (tame_there (meaning_in core) (start (the_program core)) (heard_keys v moves) hushed m tame) in
      let vm_like = like core v (vm_word linked no_keys) moves m at hushed ((vm moves there.made).agrees tame_vm) in
      record {
        at_hack = alike;
        at_jack = record { state = gates.state; after = gates.after; alike = record { words = gates.words; point = gates.point } };
        at_vm = record {
          linked = linked;
          is_code = is_image.links;
          moves = moves;
          few = (let a = there.few in let b = fits in omega (arith, a, b));
          made = there.made;
          behind = there.behind;
          alike = same_state core m _ _ gates vm_like;
        };
      }
