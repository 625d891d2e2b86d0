-- The machine after a drive, by the meaning of its program.
use Rattle.std.proofs.Common.{◌≡◌, ◌+◌, ℕ, zero, suc, List, [], ◌∷◌, ◌++◌, Some, refl, sym, ◌∙◌, ap, subst, append-nil, arith}
use Rattle.jack_meaning.specs.Text.{Subroutine}
use Rattle.jack_meaning.specs.Meaning.{State, start}
use Rattle.jack_meaning.specs.Level.{meaning_of, point_in}
use Rattle.jack_core.specs.Texts.{the_program, the_subroutines}
use Rattle.jack_machine.specs.Whole.{IsTurn, Leads, Stands, jack_state}
use Rattle.jack_machine.specs.declared.jack.Jack.{Jack}
use Rattle.machine_io.specs.Driven.{IsDriven}
use Rattle.machine_io.specs.History.{Turn, moves_from, turn}
use Rattle.machine_io.specs.declared.driving.End.{End as Ending}
use Rattle.machine_io.specs.declared.driving.End.TheVariants as ends
use Rattle.machine_io.specs.declared.machine.Moved.{Moved}
use Rattle.machine_io.specs.declared.machine.Moved.TheVariants as moved
use Rattle.machine_io.specs.declared.machine.Stray.TheVariants as strays
use Rattle.nand_cli.specs.Inner.Reports.{HasRun, Shows}
use Rattle.nand_cli.specs.Commands.Run.{state_after}

-- what the machine shows is the state that it stands for
shows : (jack : Jack) (s : State) → jack_state jack ≡ s → Shows jack s
shows jack s e = record {
  words = ap (λ (x : State). x.words) e;
  point = ap (λ (x : State). point_in x) e;
}

-- ---- moves are steps

moved_on : (subs : List Subroutine) (code : ℕ → ℕ) (first s s' : State) (c m k : ℕ) → k ≡ c + m → state_after (meaning_of subs) code first c ≡ Some s
    → Leads subs s (moves_from code c m) s' → state_after (meaning_of subs) code first k ≡ Some s'
moved_on subs code first s s' c zero k count e h =
    ap (state_after (meaning_of subs) code first) (let same : k ≡ c = omega (arith, count) in same) ∙ e ∙ ap (λ (x : State). Some x) (sym h)
moved_on subs code first s s' c (suc m) k count e (between, (heard, made), rest) =
    moved_on subs code first between s' (suc c) m k (omega (arith, count)) (rw e (rw made refl)) rest

-- a history and one more turn
split : (subs : List Subroutine) (first s' : State) (turns : List Turn) (t : Turn) → Leads subs first (turns ++ t ∷ []) s' → (s : State) × Leads subs first turns s × IsTurn subs s t s'
split subs first s' [] t (between, made, e) = (first, refl, subst (IsTurn subs first t) (sym e) made)
split subs first s' (u ∷ turns) t (between, made, rest) =
    let r = split subs between s' turns t rest in
    (r.0, (between, made, r.1), r.2)

-- ---- how a drive ends

by_bound : (code : ℕ → ℕ) (new : Jack) (c n : ℕ) → c ≡ 0 → new.moves ≡ c + n → Stands new (moves_from code c n ++ []) → HasRun code n new ends.Bound
by_bound code new c n first count leads =
    let subs = the_subroutines new.core.now in
    let s = jack_state new in
    let leads' : Leads subs (start (the_program new.core.now)) (moves_from code 0 n) s =
    subst (λ k. Leads subs (start (the_program new.core.now)) (moves_from code k n) s) first
    (subst (λ (turns : List Turn). Leads subs (start (the_program new.core.now)) turns s) (append-nil (moves_from code c n)) leads) in
    (s, moved_on subs code (start (the_program new.core.now)) (start (the_program new.core.now)) s 0 n new.moves (omega (arith, first, count)) refl leads', omega (arith, first, count), shows new s refl)

by_answer : (code : ℕ → ℕ) (new : Jack) (c m : ℕ) (answer : Moved) → c ≡ 0 → new.moves ≡ c + m → Stands new (moves_from code c m ++ turn (code (c + m)) answer ∷ [])
    → (s : State) × (state_after (meaning_of (the_subroutines new.core.now)) code (start (the_program new.core.now)) new.moves ≡ Some s)
    × IsTurn (the_subroutines new.core.now) s (turn (code new.moves) answer) (jack_state new)
by_answer code new c m answer first count leads =
    let subs = the_subroutines new.core.now in
    let r = split subs (start (the_program new.core.now)) (jack_state new) (moves_from code c m) (turn (code (c + m)) answer) leads in
    let before : Leads subs (start (the_program new.core.now)) (moves_from code 0 m) r.0 =
    subst (λ k. Leads subs (start (the_program new.core.now)) (moves_from code k m) r.0) first r.1 in (
      r.0,
      moved_on subs code (start (the_program new.core.now)) (start (the_program new.core.now)) r.0 0 m new.moves (omega (arith, first, count)) refl before,
      subst (λ k. IsTurn subs r.0 (turn (code k) answer) (jack_state new)) (sym count) r.2,
    )

pub ran : (code : ℕ → ℕ) (old new : Jack) (n : ℕ) (end : Ending) → IsDriven code (Stands old) old.moves n end (Stands new) new.moves → Stands old [] → old.moves ≡ 0 → HasRun code n new end
ran code old new n ends.Bound goes h first = by_bound code new old.moves n first goes.counts (goes.leads [] h)
ran code old new n ends.Done (m, below, goes) h first =
    let r = by_answer code new old.moves m moved.Done first goes.counts (goes.leads [] h) in
    (r.0, r.1, (omega (arith, first, goes.counts, below), r.2.0), shows new r.0 r.2.1)
ran code old new n (ends.Stray (strays.Address a)) (m, below, goes) h first =
    let r = by_answer code new old.moves m (moved.Stray (strays.Address a)) first goes.counts (goes.leads [] h) in
    (r.0, r.1, (omega (arith, first, goes.counts, below), r.2.0), shows new r.0 r.2.1)
ran code old new n (ends.Stray strays.Values) (m, below, goes) h first = absurd (by_answer code new old.moves m (moved.Stray strays.Values) first goes.counts (goes.leads [] h)).2
ran code old new n (ends.Stray strays.Argument) (m, below, goes) h first = absurd (by_answer code new old.moves m (moved.Stray strays.Argument) first goes.counts (goes.leads [] h)).2
ran code old new n (ends.Stray strays.Local) (m, below, goes) h first = absurd (by_answer code new old.moves m (moved.Stray strays.Local) first goes.counts (goes.leads [] h)).2
ran code old new n (ends.Stray strays.Code) (m, below, goes) h first = absurd (by_answer code new old.moves m (moved.Stray strays.Code) first goes.counts (goes.leads [] h)).2
ran code old new n (ends.Full w) (m, below, goes) h first = absurd (by_answer code new old.moves m (moved.Full w) first goes.counts (goes.leads [] h)).2
