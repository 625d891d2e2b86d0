use Rattle.std.proofs.Common.{◌≡◌, suc, ◌+◌, List, ◌∷◌, ◌++◌, length, sym, ap, ◌∙◌, arith}
use Rattle.hdl_tree.specs.declared.library.Entry.{Entry}
use Rattle.name_table.specs.Names.{find_value}
use Rattle.name_table.specs.Tables.{table_of}
use Rattle.hdl_check.specs.Inner.Progress.{numbered_entries}
use Rattle.name_table.proofs.Entries.{front_next}
use Rattle.hdl_loops.proofs.places.named_places.Goals as goal

pub loop-entry-preserved : goal.loop-entry-preserved
loop-entry-preserved c =
    let rest : c.loop-entry.rest.now ≡ c.in-Some.entry.now ∷ c.in-Some.others.now = c.in-Some.ensures.cases.0 in
    let on : c.loop-entry.k + 1 ≡ suc c.loop-entry.k = omega arith in
    let t = table_of c.loop-entry.names in
    record {
      left = λ x.
          ap (λ n. find_value x (table_of c.enter.new.self ++ numbered_entries n c.in-Some.others.now)) on
          ∙ front_next x c.as_bytes.result.now (table_of c.enter.new.self) t (numbered_entries (suc c.loop-entry.k) c.in-Some.others.now) c.loop-entry.k c.in_ok-enter.ensures.entered
          ∙ ap (λ n. find_value x (t ++ (n, c.loop-entry.k) ∷ numbered_entries (suc c.loop-entry.k) c.in-Some.others.now)) c.as_bytes.ensures
          ∙ ap (λ (es : List Entry). find_value x (t ++ numbered_entries c.loop-entry.k es)) (sym rest)
          ∙ c.loop-entry.invariant.left x;
      many = omega (arith, ap length rest);
    }
