-- A call of a plain routine that has just been made: the start of its function, and then its first statement.
use Rattle.std.proofs.Common.{◌≡◌, ℕ, suc, ◌+◌, ◌≤◌, Bool, true, false, ◌*◌, List, [], ◌∷◌, ◌++◌, length, replicate, refl, sym, ap, ◌∙◌, subst, arith}
use Rattle.std.specs.Prelude.{Some, slice_get}
use Rattle.std.proofs.lemmas.List.{length-replicate}
use Rattle.vm_link.specs.declared.linked.Step.TheVariants as command
use Rattle.vm_link.specs.declared.linked.Code.{Code}
use Rattle.vm_link.specs.declared.linked.Linked.{Linked}
use Rattle.vm_machine.specs.State.{words_in_use}
use Rattle.vm_machine.specs.State.{Frame as VmFrame, State as VmState}
use Rattle.vm_machine.specs.Step.{code_of, code_in}
use Rattle.jack_meaning.specs.Text.{Kind, Function, Text, End, Next, joined_text, Program, Subroutine}
use Rattle.jack_meaning.specs.Meaning.{subroutine_at, Frame, State, text_point}
use Rattle.jack_meaning.specs.Gap.{nest_in}
use Rattle.jack_compiler.specs.Templates.{object_code, text_code, first_number, subroutine_code, Numbers, quiet}
use Rattle.jack_compiler.specs.Fits.{has_object, first_named, IsBody, IsFitSubroutine, IsFreshText, Scope, IsClosed}
use Rattle.jack_compiler.specs.Places.{HasAt, Reads}
use Rattle.jack_compiler.specs.Match.{Entering, IsCodeOf, scope_at, Same, Callers, SameWords}
use Rattle.jack_compiler.proofs.Ways.{Goes, Here, quiet_way}
use Rattle.jack_compiler.proofs.Parts.{u}
use Rattle.jack_compiler.proofs.Begins.{text_reads}
use Rattle.jack_compiler.proofs.Entering.{between_way}

shifted : (code : List Code) (m : Code) (p : ℕ) (ms : List Code) → HasAt code p ms → HasAt (m ∷ code) (suc p) ms
shifted code m p [] h = tt
shifted code m p (x ∷ ms) h = (h.0, shifted code m (suc p) ms h.1)

whole_at : (code : List Code) → HasAt code 0 code
whole_at [] = tt
whole_at (m ∷ ms) = (refl, shifted ms m 0 ms (whole_at ms))

joined_end : (t : Text) → joined_text t End ≡ t
joined_end End = refl
joined_end (Next s t) = ap (Next s) (joined_end t)

first_point : (t : Text) → IsClosed t → first_number 0 t ≡ text_point t
first_point End h = absurd h
first_point (Next s rest) h = refl

not_both : {b : Bool} → b ≡ true → b ≡ false → ⊥
not_both h h' = cc (sym h ∙ h')

module _ (program : Program) (numbers : Numbers) (linked : Linked) (depth : ℕ) (agree : IsCodeOf program numbers linked) (ss ws : List ℕ) (f g : Frame) (below : List Frame) (V : VmState) (vf vg : VmFrame) (vbs : List VmFrame) where
  abbrev here_u : State
  here_u = u program numbers linked depth ss ws f g below V vf vg vbs

  abbrev scope : Scope
  scope = scope_at program numbers linked depth f.subroutine

  abbrev sub : Subroutine
  sub = subroutine_at program.subroutines f.subroutine

  abbrev HasIn : ℕ → List Code → Type 0
  HasIn p cs = HasAt (code_in linked vf.function) p cs

  module _ (there : Here program numbers linked depth here_u V vf) (memory : SameWords program numbers linked depth ss ws V) (callers : Callers program numbers linked depth (g ∷ below) (vg ∷ vbs)) (e : Entering program numbers linked depth f vf) (count : ℕ) (count_is : scope.locals ≡ count)
      (room : words_in_use (vg ∷ vbs) + length vf.arguments + 5 + count + 8 ≤ 1792) where
    -- the frame with its locals, past the start of its function
    abbrev vf1 : VmFrame
    vf1 = record vf { place = 1; locals = replicate count 0; values = [] }

    abbrev G : ℕ → VmState → Type 0
    G m v = Goes program numbers linked depth here_u m v

    many_locals : length (replicate {A = ℕ} count 0) ≡ count
    many_locals = length-replicate {A = ℕ} count 0

    same : scope.object ≡ false → scope.first ≡ 0 → Same program numbers linked depth scope f vf1
    same object named = record {
      kept = e.kept;
      function = e.function;
      arguments = e.arguments;
      locals = sym (e.locals ∙ ap (λ k. replicate k 0) count_is);
      arguments_length = e.arguments_length;
      locals_length = ap length e.locals ∙ length-replicate {A = ℕ} sub.locals 0;
      this = λ o. absurd (not_both o object);
      object = λ o. absurd (omega (arith, named, o));
    }

    reads_body : (t : Text) (p : ℕ) → nest_in t ≤ depth → IsFreshText program.subroutines numbers scope t → HasIn p (text_code numbers 0 p t) → Reads program.subroutines numbers scope depth (code_in linked vf.function) 0 t p
    reads_body t p deep fresh has =
        subst (λ t'. Reads program.subroutines numbers scope depth (code_in linked vf.function) 0 t' p) (joined_end t)
        (text_reads program.subroutines numbers scope depth (code_in linked vf.function) 0 t p End (omega arith) deep fresh has tt)

    -- past the start of its function
    body_way : (body : Text) → f.text ≡ body → IsClosed body → nest_in body ≤ depth → scope.object ≡ false → scope.first ≡ 0 → IsFreshText program.subroutines numbers scope body
        → HasIn 1 (text_code numbers 0 1 body) → G (2 * depth + 71) (record V { frames = vf1 ∷ vg ∷ vbs })
    body_way body text closed deep object named fresh has =
        between_way program numbers linked depth agree ss ws f g below V vf1 vg vbs (record { words = there.words; sub = there.sub }) memory callers (omega (arith, room, many_locals)) body text closed
        (same object named) 1 vf.that (reads_body body 1 deep fresh has)

    code_is : code_in linked vf.function ≡ subroutine_code numbers sub
    code_is = let fa = agree.function f.subroutine e.kept in ap (code_in linked) e.function ∙ (ap code_of fa.1 ∙ fa.3)

    -- without an object
    abbrev After : Kind → Text → Type 0
    After kind body = HasIn 1 (object_code kind (first_number 0 body) ++ text_code numbers 0 (1 + length (object_code kind (first_number 0 body))) body)

    entered : (most_locals : ℕ) → IsFitSubroutine program.subroutines numbers depth most_locals sub → sub.kind ≡ Function → G (14 + 4 * count + (2 * depth + 71)) (record V { frames = record vf { place = 0; locals = []; values = [] } ∷ vg ∷ vbs })
    entered most_locals fit kind =
        let n = first_number 0 sub.body in
        let number : n ≡ text_point f.text = first_point sub.body fit.closed ∙ sym (ap text_point e.text) in
        let has : HasIn 0 (subroutine_code numbers sub) = subst (λ c. HasAt c 0 (subroutine_code numbers sub)) (sym code_is) (whole_at (subroutine_code numbers sub)) in
        let first : slice_get (code_in linked vf.function) 0 ≡ Some (quiet n (command.Function count)) = has.0 ∙ ap (λ k. Some (quiet n (command.Function k))) count_is in
        let body : HasIn 1 (text_code numbers 0 1 sub.body) = subst (λ k. After k sub.body) kind has.1 in
        let fresh : IsFreshText program.subroutines numbers scope sub.body = subst (λ k. IsBody program.subroutines numbers scope k sub.body) kind fit.body in
        quiet_way program numbers linked depth here_u V (record vf { place = 0; locals = []; values = [] }) (vg ∷ vbs) n (command.Function count) (2 * depth + 71) (record V { frames = vf1 ∷ vg ∷ vbs })
        (record { words = there.words; sub = there.sub }) number first (λ key. refl) (omega (arith, room, many_locals))
        (body_way sub.body e.text fit.closed fit.nested (ap has_object kind) (ap first_named kind) fresh body)

    pub plain_way : (most_locals : ℕ) → IsFitSubroutine program.subroutines numbers depth most_locals sub → sub.kind ≡ Function → G (14 + 4 * count + (2 * depth + 71)) (record V { frames = vf ∷ vg ∷ vbs })
    plain_way most_locals fit kind =
        let m = 14 + 4 * count + (2 * depth + 71) in
        subst (λ p. G m (record V { frames = record vf { place = p } ∷ vg ∷ vbs })) (sym e.place)
        (subst (λ ls. G m (record V { frames = record vf { place = 0; locals = ls } ∷ vg ∷ vbs })) (sym e.none)
        (subst (λ vs. G m (record V { frames = record vf { place = 0; locals = []; values = vs } ∷ vg ∷ vbs })) (sym e.values)
        (entered most_locals fit kind)))
