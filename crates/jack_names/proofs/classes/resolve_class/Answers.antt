use Rattle.std.proofs.Common.{◌≡◌, ◌++◌, map, subst, ap, ◌∙◌, OnOk}
use Rattle.jack_core.specs.Texts.{the_subroutine}
use Rattle.jack_names.specs.Symbols.{class_scope, fields_of}
use Rattle.jack_names.specs.Inner.Whole.{class_fault, class_subroutines}
use Rattle.jack_names.specs.Inner.Named.{the_symbols, the_class_scope}
use Rattle.jack_names.proofs.Checking.{as_fault}
use Rattle.jack_names.proofs.classes.resolve_class.Goals as goal

pub returns-clause-checks : goal.returns-clause-checks
returns-clause-checks c =
    let scope = class_scope (the_symbols c.args.names.now) c.args.shipped c.args.own c.args.statics c.args.class.now in
    as_fault (class_fault (the_class_scope c.class_scope-scope.result) c.deref-3.result.now) (class_fault scope c.args.class.now.subroutines.items) c.resolve_subroutines.result
    (ap (λ sc. class_fault sc c.deref-3.result.now) c.class_scope-scope.ensures ∙ ap (class_fault scope) c.deref-3.ensures.value) c.resolve_subroutines.ensures.checks

pub returns-clause-program : goal.returns-clause-program
returns-clause-program c =
    let scope = class_scope (the_symbols c.args.names.now) c.args.shipped c.args.own c.args.statics c.args.class.now in
    let fields = fields_of c.args.class.now.variables.items in
    let same : class_subroutines (the_class_scope c.class_scope-scope.result) c.fields_of-fields.result c.deref-3.result.now ≡ class_subroutines scope fields c.args.class.now.subroutines.items =
    ap (λ sc. class_subroutines sc c.fields_of-fields.result c.deref-3.result.now) c.class_scope-scope.ensures
    ∙ ap (λ n. class_subroutines scope n c.deref-3.result.now) (c.fields_of-fields.ensures ∙ ap fields_of c.deref-2.ensures.value)
    ∙ ap (class_subroutines scope fields) c.deref-3.ensures.value in
    subst (λ l. OnOk c.resolve_subroutines.result (map the_subroutine c.resolve_subroutines.new.subroutines.items ≡ map the_subroutine c.args.subroutines.now.items ++ l)) same c.resolve_subroutines.ensures.program
