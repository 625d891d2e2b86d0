-- A line of `soak` prints one thing or is refused for one thing, and not both.
use Rattle.std.proofs.Common.{◌≡◌, ◌≤◌, ◌<◌, ◌+◌, ◌%◌, ◌⊎◌, inl, inr, ℕ, zero, suc, Bool, true, false, List, Some, Ok, refl, sym, ◌∙◌, subst, arith}
use Rattle.std.specs.Prelude.{if◌then◌else◌}
use Rattle.std.proofs.lemmas.Bool.{cases_lt}
use Rattle.jack_parser.specs.Spelled.{ClassLaw}
use Rattle.jack_meaning.specs.Text.{Program}
use Rattle.jack_meaning.specs.Level.{meaning_of}
use Rattle.jack_meaning.specs.Meaning.{start}
use Rattle.jack_core.specs.declared.program.Core.{Core}
use Rattle.image_map.specs.declared.map.Image.{Image}
use Rattle.tower.specs.OneProgram.{SameProgram}
use Rattle.gate_computer.specs.Computer.{IsComputer}
use Rattle.hdl_tree.specs.Behaviour.{Histories}
use Rattle.soak_program.specs.Generator.{IsProgram}
use Rattle.soak_program.specs.Laws.{OneTextLaw}
use Rattle.command_line.specs.Line.{build}
use Rattle.nand_cli.specs.JackFolder.{FolderMeans}
use Rattle.nand_cli.specs.Commands.Build.{BuildRefuses}
use Rattle.nand_cli.specs.Commands.Soak.{AreOutcomes, HasNoImage, HasOutcome, IsOutcome, IsSummary, More, None, Shows, SoakRefuses, cycles, most_moves, soak_files, soak_source, summary_text}
use Rattle.nand_cli.specs.Commands.SoakLevels.{AreLevelsAlike, IsAtJack, IsAtVm, View, after_steps, no_keys}
use Rattle.command_laws.specs.Exact.{ClassesExactLaw, SoakExactLaw}
use Rattle.command_laws.proofs.RunExactly.{linked_here, one_image_of, one_meaning}

-- ---- one text

one_text : OneTextLaw → (seed number : ℕ) (text text' : List ℕ) → IsProgram seed number text → IsProgram seed number text' → text ≡ text'
one_text law seed number text text' h k = (law.one _ h.after k.after text text' h.generated k.generated).0

-- ---- one outcome

both_true : (b c : Bool) → (b ≡ true → c ≡ true) → (c ≡ true → b ≡ true) → b ≡ c
both_true true c f g = sym (f refl)
both_true false true f g = g refl
both_true false false f g = refl

module _ (core core' : Core) (same : SameProgram core core') where
  jack_moved : (m : ℕ) (v : View) → IsAtJack core' m v → IsAtJack core m v
  jack_moved m v h = record {
    state = h.state;
    after = subst (λ (p : Program). after_steps (meaning_of p.subroutines) (start p) m ≡ Some h.state) (sym same.program) h.after;
    alike = h.alike;
  }

  vm_moved : (bound m : ℕ) (v : View) → IsAtVm core' bound m v → IsAtVm core bound m v
  vm_moved bound m v h = record {
    linked = h.linked;
    is_code = linked_here core core' same (Ok h.linked) h.is_code;
    moves = h.moves;
    few = h.few;
    made = h.made;
    behind = h.behind;
    alike = h.alike;
  }

  pub moved : (image : Image) (n bound m : ℕ) (v : View) → AreLevelsAlike core' image n bound m v → AreLevelsAlike core image n bound m v
  moved image n bound m v h = record { at_hack = h.at_hack; at_jack = jack_moved m v h.at_jack; at_vm = vm_moved bound m v h.at_vm }

back : (core core' : Core) → SameProgram core core' → SameProgram core' core
back core core' same = record { program = sym same.program; names = sym same.names; classes = sym same.classes }

pub record SameOutcome (m sum : ℕ) (b : Bool) (m' sum' : ℕ) (b' : Bool) : Type 0 where
  pub steps_are : m ≡ m'
  pub sums_are : sum ≡ sum'
  pub told_alike : b ≡ b'

module _ (core core' : Core) (same : SameProgram core core') (n bound m sum m' sum' : ℕ) (b b' : Bool) (h : IsOutcome core n bound m sum b) (k : IsOutcome core' n bound m' sum' b') where
  images : h.image ≡ k.image
  images = one_image_of core core' same h.image k.image h.is_image k.is_image

  abbrev wires : List ℕ → Histories
  wires = (h.behaves (suc n)).0

  here : Shows core h.image n bound m sum b wires
  here = h.shows (suc n) wires (omega arith) (h.behaves (suc n)).1

  there : Shows core' h.image n bound m' sum' b' wires
  there =
      let P : Image → Type 0 = λ p. (j : ℕ) (w : List ℕ → Histories) → n < j → IsComputer p.words no_keys j w → Shows core' p n bound m' sum' b' w in
      subst P (sym images) k.shows (suc n) wires (omega arith) (h.behaves (suc n)).1

  one_outcome : SameOutcome m sum b m' sum' b'
  one_outcome = record {
    steps_are = here.counted ∙ sym there.counted;
    sums_are = here.summed ∙ sym there.summed;
    told_alike = both_true b b'
        (λ e. there.told.1 (moved core' core (back core core' same) h.image n bound _ _ (here.told.0 e)))
        (λ e. here.told.1 (moved core core' same h.image n bound _ _ (there.told.0 e)));
  }

module _ (class_law : ClassLaw) (text_law : OneTextLaw) (builds : ClassesExactLaw) where
  same_outcome : (seed number m sum m' sum' : ℕ) (b b' : Bool) → HasOutcome seed number m sum b → HasOutcome seed number m' sum' b' → SameOutcome m sum b m' sum' b'
  same_outcome seed number m sum m' sum' b b' h k =
      let text = one_text text_law seed number h.text k.text h.generated k.generated in
      let means = subst (λ (t : List ℕ). FolderMeans (Some (soak_files t)) soak_source k.core) (sym text) k.means in
      one_outcome h.core k.core (one_meaning class_law (soak_files h.text) soak_source h.core k.core h.means means) cycles most_moves m sum m' sum' b b' h.outcome k.outcome

  one_refusal : (seed number : ℕ) (line line' : List ℕ) → HasNoImage seed number line → HasNoImage seed number line' → line ≡ line'
  one_refusal seed number line line' h k =
      let text = one_text text_law seed number h.text k.text h.generated k.generated in
      let other = subst (λ (t : List ℕ). BuildRefuses (Some (soak_files t)) soak_source line') (sym text) k.refused in
      ((builds (soak_files h.text) soak_source build).refuses _ _ line _ _ line' (refl, h.refused, refl) (refl, other, refl)).1

  not_both : (seed number m sum : ℕ) (b : Bool) (line : List ℕ) → HasOutcome seed number m sum b → HasNoImage seed number line → ⊥
  not_both seed number m sum b line h k =
      let text = one_text text_law seed number h.text k.text h.generated k.generated in
      let other = subst (λ (t : List ℕ). BuildRefuses (Some (soak_files t)) soak_source line) (sym text) k.refused in
      let image = h.outcome.image in
      (builds (soak_files h.text) soak_source build).apart _ _ _ _ line ((h.core, image, (h.means, h.outcome.is_image), refl), refl) (refl, other, refl)

  -- ---- the first programs

  pub record SameTotals (agree all sum agree' all' sum' : ℕ) : Type 0 where
    pub agrees : agree ≡ agree'
    pub steps_are : all ≡ all'
    pub sums_are : sum ≡ sum'

  totals : (seed i agree all sum agree' all' sum' : ℕ) → AreOutcomes seed i agree all sum → AreOutcomes seed i agree' all' sum' → SameTotals agree all sum agree' all' sum'
  totals seed zero agree all sum agree' all' sum' None None = record { agrees = refl; steps_are = refl; sums_are = refl }
  totals seed (suc i) agree all sum agree' all' sum' (More {agree = a} {all = s} {sum = t} {m = m} {w = w} {agreed = b} h one) (More {agree = a'} {all = s'} {sum = t'} {m = m'} {w = w'} {agreed = b'} k two) =
      let before = totals seed i a s t a' s' t' h k in
      let last = same_outcome seed (suc i) m w m' w' b b' one two in
      record {
        agrees = λ j. before.agrees j + (if last.told_alike j then 1 else 0);
        steps_are = λ j. before.steps_are j + last.steps_are j;
        sums_are = λ j. (before.sums_are j + last.sums_are j) % 65536;
      }

  by_place : (seed i j m w : ℕ) (b : Bool) → HasOutcome seed (suc i) m w b → j < suc i → (j < i → (n : ℕ) × (v : ℕ) × (c : Bool) × HasOutcome seed (suc j) n v c) → (j < i) ⊎ (i ≤ j)
      → (n : ℕ) × (v : ℕ) × (c : Bool) × HasOutcome seed (suc j) n v c
  by_place seed i j m w b one below go (inl low) = go low
  by_place seed i j m w b one below go (inr up) =
      let same : i ≡ j = omega (arith, below, up) in subst (λ (k : ℕ). (n : ℕ) × (v : ℕ) × (c : Bool) × HasOutcome seed (suc k) n v c) same (m, w, b, one)

  -- each of the first programs has an outcome
  one_of : (seed i agree all sum : ℕ) → AreOutcomes seed i agree all sum → (j : ℕ) → j < i → (m : ℕ) × (w : ℕ) × (b : Bool) × HasOutcome seed (suc j) m w b
  one_of seed zero agree all sum None j below = absurd (omega (arith, below))
  one_of seed (suc i) agree all sum (More {m = m} {w = w} {agreed = b} h one) j below = by_place seed i j m w b one below (λ low. one_of seed i _ _ _ h j low) (cases_lt j i)

  -- which is not reported of a program without an image
  no_image_after : (seed i agree all sum j : ℕ) (line : List ℕ) → AreOutcomes seed i agree all sum → j < i → HasNoImage seed (suc j) line → ⊥
  no_image_after seed i agree all sum j line h below k =
      let (m, w, b, one) = one_of seed i agree all sum h j below in not_both seed (suc j) m w b line one k

  one_summary : (seed count : ℕ) (out out' : List ℕ) → IsSummary seed count out → IsSummary seed count out' → out ≡ out'
  one_summary seed count out out' h k =
      let same = totals seed count h.agree h.all h.sum k.agree k.all k.sum h.outcomes k.outcomes in
      h.is_text ∙ (λ j. summary_text seed count (same.agrees j) (same.steps_are j) (same.sums_are j)) ∙ sym k.is_text

  line_by : (seed count : ℕ) (line line' : List ℕ) (h : SoakRefuses seed count line) (k : SoakRefuses seed count line') → (h.before < k.before) ⊎ (k.before ≤ h.before) → (k.before < h.before) ⊎ (h.before ≤ k.before) → line ≡ line'
  line_by seed count line line' h k (inl low) other = absurd (no_image_after seed k.before k.agree k.all k.sum h.before line k.outcomes low h.refused)
  line_by seed count line line' h k (inr up) (inl low) = absurd (no_image_after seed h.before h.agree h.all h.sum k.before line' h.outcomes low k.refused)
  line_by seed count line line' h k (inr up) (inr down) =
      let same : k.before ≡ h.before = omega (arith, up, down) in
      one_refusal seed (suc h.before) line line' h.refused (subst (λ (j : ℕ). HasNoImage seed (suc j) line') same k.refused)

  pub soak_exact : SoakExactLaw
  soak_exact files seed count = record {
    prints = λ one out err out' err' h k. (one_summary seed count out out' h.0 k.0, h.1 ∙ sym k.1);
    refuses = λ out before told out' before' told' h k. (h.0 ∙ sym k.0, line_by seed count told told' h.1 k.1 (cases_lt _ _) (cases_lt _ _), h.2 ∙ sym k.2);
    apart = λ out err out' before told h k. no_image_after seed count h.0.agree h.0.all h.0.sum k.1.before told h.0.outcomes k.1.within k.1.refused;
    lacking = λ there has gone out before told. absurd gone;
  }
