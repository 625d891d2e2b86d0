-- The commits of a built program rise.
use Rattle.std.proofs.Common.{◌≤◌, ◌<◌, ◌+◌, ◌-◌, ℕ, suc, Bool, true, false, List, [], ◌∷◌, Some, None, sym, subst, arith}
use Rattle.std.specs.Prelude.{◌&&◌, ◌++◌, not, if◌then◌else◌}
use Rattle.std.specs.List.{cons_option, filter_map}
use Rattle.vm_templates.specs.declared.routines.Routine.{Routine}
use Rattle.vm_templates.specs.Templates.{routine_size}
use Rattle.jack_core.specs.declared.program.Core.{Core}
use Rattle.vm_link.specs.declared.linked.Linked.{Linked}
use Rattle.vm_link.specs.Uniform.{is_shared}
use Rattle.vm_translator.specs.Image.{commit_of, commits_of, shared_at, shared_commits}
use Rattle.vm_translator.specs.Places.{base_of, end_of, program}
use Rattle.vm_translator.specs.Shapes.{step_size}
use Rattle.vm_translator.specs.Shared.{lasts_from, used_routines}
use Rattle.vm_translator.specs.declared.layout.Placed.{Placed}
use Rattle.vm_translator.proofs.Chained.{Chain, chain_from}
use Rattle.vm_translator.proofs.Routines.{routine_some}
use Rattle.vm_translator.proofs.Sums.{size_some}
use Rattle.image_map.specs.declared.map.Image.{Image}
use Rattle.tower.specs.Image.{IsImageOf}
use Rattle.nand_cli.specs.Commands.Map.{AreRising, RiseFrom}

lower : (m n : ℕ) (addresses : List ℕ) → m ≤ n → RiseFrom n addresses → RiseFrom m addresses
lower m n [] below rise = tt
lower m n (a ∷ more) below rise = let first = rise.0 in (omega (arith, below, first), rise.1)

-- the commit of a step, if it is one, is its last address
next_step : (at size : ℕ) (commit : Bool) (later more : List ℕ) → 0 < size → RiseFrom (at + size) (later ++ more)
    → RiseFrom at (cons_option (if commit then Some (at + size - 1) else None) later ++ more)
next_step at size true later more some rise = (omega arith, lower (suc (at + size - 1)) (at + size) (later ++ more) (omega (arith, some)) rise)
next_step at size false later more some rise = lower at (at + size) (later ++ more) (omega arith) rise

of_steps : (at to : ℕ) (xs : List Placed) (more : List ℕ) → Chain at xs to → RiseFrom to more → RiseFrom at (filter_map commit_of xs ++ more)
of_steps at to [] more chain rise = subst (λ a. RiseFrom a more) (sym chain) rise
of_steps at to (x ∷ xs) more chain rise =
    let here = chain.0 in
    let rest = of_steps (at + step_size x.code.step) to xs more chain.1 rise in
    let size = step_size x.code.step in
    let later = filter_map commit_of xs in
    let own = next_step x.at size (x.code.commit && not (is_shared x.code.step)) later more (size_some x.code.step) (subst (λ a. RiseFrom (a + size) (later ++ more)) (sym here) rest) in
    subst (λ a. RiseFrom a (filter_map commit_of (x ∷ xs) ++ more)) here own

-- that of a routine is its last address, too
of_routines : (at : ℕ) (rs : List Routine) → RiseFrom at (lasts_from at rs)
of_routines at [] = tt
of_routines at (r ∷ rs) =
    let some = routine_some r in
    let later = lasts_from (at + routine_size r) rs in
    (omega (arith, some), lower (suc (at + routine_size r - 1)) (at + routine_size r) later (omega (arith, some)) (of_routines (at + routine_size r) rs))

if_marked : (at : ℕ) (marked : Bool) (addresses : List ℕ) → RiseFrom at addresses → RiseFrom at (if marked then addresses else [])
if_marked at true addresses rise = rise
if_marked at false addresses rise = tt

-- that of the start code comes first
after_start : (bare marked : Bool) (more : List ℕ) → RiseFrom (if bare then 0 else 23) more → RiseFrom 0 ((if not bare && marked then 20 ∷ [] else []) ++ more)
after_start true marked more rise = rise
after_start false true more rise = (omega arith, lower 21 23 more (omega arith) rise)
after_start false false more rise = lower 0 23 more (omega arith) rise

pub commits_rise : (l : Linked) → AreRising (commits_of l)
commits_rise l =
    let shared = if_marked (shared_at l) l.marked (lasts_from (shared_at l) (used_routines l)) (of_routines (shared_at l) (used_routines l)) in
    let behind = lower (end_of l) (shared_at l) (shared_commits l) (omega arith) shared in
    after_start l.bare l.marked (filter_map commit_of (program l) ++ shared_commits l)
    (of_steps (base_of l) (end_of l) (program l) (shared_commits l) (chain_from 0 (base_of l) l.functions) behind)

pub rising : (core : Core) (b : Image) → IsImageOf core b → AreRising b.map.commits
rising core b is = subst (λ (q : Image). AreRising q.map.commits) (sym is.is_image) (commits_rise is.linked)
