use Rattle.std.proofs.Common.{◌≡◌, List, ◌∷◌, ◌++◌, sym, ap, ◌∙◌}
use Rattle.hdl_tree.specs.declared.tree.Part.{Part}
use Rattle.name_table.specs.Names.{find_value}
use Rattle.name_table.specs.Tables.{table_of}
use Rattle.hdl_check.specs.Faults.{widths_of, drivers_of, drivers_of_part}
use Rattle.hdl_check.specs.Inner.Progress.{chips_of}
use Rattle.name_table.proofs.Entries.{found_front}
use Rattle.hdl_check.proofs.Rows.{assoc, widths_of-append}
use Rattle.hdl_check.proofs.catalog.net_table.Goals as goal

pub loop-part-preserved : goal.loop-part-preserved
loop-part-preserved c = λ x.
    let chips = chips_of c.args.catalog.now in
    let rest : c.loop-part.rest.now ≡ c.in-Some.part.now ∷ c.in-Some.others.now = c.in-Some.ensures.cases.0 in
    let put = drivers_of_part chips c.in-Some.part.now in
    let more = drivers_of chips c.in-Some.others.now in
    found_front x (table_of c.enter_part.new.nets) (table_of c.loop-part.nets ++ widths_of put) (widths_of more) (c.in_ok-enter_part.ensures x)
    ∙ ap (find_value x) (assoc (table_of c.loop-part.nets) (widths_of put) (widths_of more))
    ∙ ap (λ t. find_value x (table_of c.loop-part.nets ++ t)) (sym (widths_of-append put more))
    ∙ ap (λ (ps : List Part). find_value x (table_of c.loop-part.nets ++ widths_of (drivers_of chips ps))) (sym rest)
    ∙ c.loop-part.invariant x
