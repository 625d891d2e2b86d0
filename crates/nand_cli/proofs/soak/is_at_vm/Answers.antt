use Rattle.std.proofs.Common.{◌≡◌, ℕ, true, false, refl, sym, subst}
use Rattle.vm_link.specs.declared.linked.Linked.{Linked}
use Rattle.tower.specs.VmRun.{IsVmCodeOf}
use Rattle.nand_cli.specs.Commands.Soak.{most_moves}
use Rattle.nand_cli.specs.Inner.SoakParts.{IsBehindCommit, NeverComes, view_in}
use Rattle.nand_cli.proofs.SoakOutcome.{gates_seen}
use Rattle.nand_cli.proofs.SoakVm.{never_seen, seen_behind, shown_behind}
use Rattle.nand_cli.proofs.soak.is_at_vm.Goals as goal

pub returns-then-comes_behind : goal.returns-then-comes_behind
returns-then-comes_behind c =
    let core = c.args.core.now in
    let gates = c.args.gates.now in
    let new = c.comes_behind.new.vm in
    let code : IsVmCodeOf core new.linked = subst (λ (l : Linked). IsVmCodeOf core l) (sym c.if-comes_behind.ensures.linked) c.in_ok-vm.ensures.program in
    let behind : IsBehindCommit new most_moves c.args.m =
    subst (λ (n : ℕ). IsBehindCommit new most_moves n) c.from.ensures (subst (λ (n : ℕ). IsBehindCommit new n c.from.result) c.most_moves.ensures.value (c.if-comes_behind.ensures.comes refl)) in (
      λ e. shown_behind core new most_moves c.args.m (view_in gates) _ (gates_seen gates) code behind (c.show_same.ensures.0 e),
      λ h. c.show_same.ensures.1 (seen_behind core new most_moves c.args.m (view_in gates) _ (gates_seen gates) code behind h),
    )

pub returns : goal.returns
returns c =
    let core = c.args.core.now in
    let gates = c.args.gates.now in
    let old = c.in_ok-vm.vm in
    let new = c.comes_behind.new.vm in
    let code : IsVmCodeOf core new.linked = subst (λ (l : Linked). IsVmCodeOf core l) (sym c.if-comes_behind.ensures.linked) c.in_ok-vm.ensures.program in
    let never : NeverComes old.linked most_moves c.args.m =
    subst (λ (n : ℕ). NeverComes old.linked most_moves n) c.from.ensures (subst (λ (n : ℕ). NeverComes old.linked n c.from.result) c.most_moves.ensures.value (c.if-comes_behind.ensures.never refl)) in (
      λ e. let no : true ≡ false = sym e in let bad : ⊥ = cc in absurd bad,
      λ h. absurd (never_seen core new most_moves c.args.m (view_in gates) _ (gates_seen gates) code old.linked c.if-comes_behind.ensures.linked never h),
    )
