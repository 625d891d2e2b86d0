use Rattle.std.proofs.Common.{◌∙◌, ap, map, [], length, option_map, arith}
use Rattle.std.proofs.lemmas.List.{length-map}
use Rattle.jack_core.specs.Texts.{the_class, names_of, class_names_of}
use Rattle.jack_compiler.specs.Files.{name_at, file_of}
use Rattle.jack_compiler.proofs.Functions.{files_none, functions_next, before_is}
use Rattle.jack_compiler.proofs.NamesThere.{class_there, other_named}
use Rattle.jack_compiler.proofs.program.with_functions.Goals as goal

pub loop-index-init : goal.loop-index-init
loop-index-init c =
    files_none c.args.core.now.classes.items (names_of c.args.core.now) c.in_ok-files.files.items
    (c.in_ok-files.ensures ∙ ap (map (λ class. file_of class.name [])) c.deref-2.ensures.value)

pub index-requires : goal.index-requires
index-requires c =
    let there = class_there c.args.core.now c.requires.resolved c.args.others.now c.requires.others c.loop-index.index c.index-others-index.result c.loop-index-test.true c.index-others-index.is in
    omega (arith, there, c.in_ok-before.ensures.0, ap length c.deref.ensures.value, c.in_ok-before.before.ok.0)

pub add_function-requires-clause-names : goal.add_function-requires-clause-names
add_function-requires-clause-names c =
    let before = before_is c.args.core.now.classes.items c.deref.result.now c.in_ok-before.before.items c.index-others-index.result.class c.index.result.now c.deref.ensures.value c.in_ok-before.ensures c.index.ensures
    (class_there c.args.core.now c.requires.resolved c.args.others.now c.requires.others c.loop-index.index c.index-others-index.result c.loop-index-test.true c.index-others-index.is) in
    other_named c.args.core.now c.requires.resolved c.args.others.now c.requires.others c.loop-index.index c.index-others-index.result c.loop-index-test.true c.index-others-index.is _
    c.deref-in-loop-index.ensures.value before

pub add_function-requires-clause-class : goal.add_function-requires-clause-class
add_function-requires-clause-class c =
    let there = class_there c.args.core.now c.requires.resolved c.args.others.now c.requires.others c.loop-index.index c.index-others-index.result c.loop-index-test.true c.index-others-index.is in
    omega (arith, there, c.loop-index.invariant.count, length-map c.args.core.now.classes.items the_class)

pub loop-index-preserved : goal.loop-index-preserved
loop-index-preserved c =
    let before = before_is c.args.core.now.classes.items c.deref.result.now c.in_ok-before.before.items c.index-others-index.result.class c.index.result.now c.deref.ensures.value c.in_ok-before.ensures c.index.ensures
    (class_there c.args.core.now c.requires.resolved c.args.others.now c.requires.others c.loop-index.index c.index-others-index.result c.loop-index-test.true c.index-others-index.is) in
    functions_next (option_map (λ m. m.now) c.args.marks) c.args.core.now.classes.items (names_of c.args.core.now) (class_names_of c.args.core.now) c.args.others.now c.loop-index.index c.index-others-index.result _
    c.is_wanted-wanted.result c.loop-index.files.items c.add_function.new.files.items
    c.loop-index-test.true c.index-others-index.is c.loop-index.invariant c.is_wanted-wanted.ensures c.in_ok-add_function.ensures (ap (λ z. name_at (map (λ sub. sub.name) z)) c.deref-in-loop-index.ensures.value) before
