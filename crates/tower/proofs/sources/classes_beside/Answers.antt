use Rattle.std.proofs.Common.{List, Vec, not, map, ap, sym, subst, rules, ◌∙◌}
use Rattle.std.proofs.lemmas.Fn.{filter_same}
use Rattle.jack_tree.specs.declared.tree.Class.{Class}
use Rattle.jack_tree.specs.Seen.{the_file}
use Rattle.jack_os.specs.System.{AreClassesOf, system}
use Rattle.tower.specs.Sources.{is_replaced, system_beside}
use Rattle.tower.proofs.Beside.{beside_all, beside_kept}
use Rattle.tower.proofs.sources.classes_beside.Goals.{then-replace, else-replace}
use Rattle.tower.proofs.sources.classes_beside.Goals as goal

pub returns : goal.returns
returns c =
    let own = map the_file c.args.own.now in
    let kept : Class → _ = λ class. not (is_replaced own class.file) in
    elim c.if-replace.branch [
      | then-replace w ↦
          beside_kept c.args.replace own c.in_ok-os.os.items c.if-replace.os.items w.if-replace.true
          (ap (λ v. v.items) w.os-is ∙ filter_same _ kept _ (λ x b f' k. search rules) _ _ w.retain.ensures.filtered) c.in_ok-os.ensures
      | else-replace w ↦ beside_all c.args.replace own c.if-replace.os.items w.if-replace.false (subst (λ v. AreClassesOf system v.items) (sym w.os-is) c.in_ok-os.ensures)
    ]
