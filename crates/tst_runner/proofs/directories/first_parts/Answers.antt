use Rattle.std.proofs.Common.{◌≡◌, ◌<◌, ◌++◌, [], ◌∷◌, List, ℕ, true, get_or, length, map, sym, ap, subst, ◌∙◌, arith}
use Rattle.std.specs.Prelude.{Some, is_some}
use Rattle.std.specs.List.{All, Contains}
use Rattle.std.proofs.lemmas.List.Elements.{All-push}
use Rattle.std.proofs.lemmas.Option.{get_or_from_slice_get}
use Rattle.name_table.specs.Names.{find_value, with_new}
use Rattle.name_table.specs.Tables.{table_of}
use Rattle.hdl_flatten.specs.Kept.{part_listed}
use Rattle.script_device.specs.Directory.{part_named}
use Rattle.script_device.specs.declared.directory.PartNodes.{PartNodes}
use Rattle.tst_runner.specs.Directories.{part_nodes}
use Rattle.tst_runner.proofs.Firsts.{AreSeen, kept_part, new_among, seen_more, seen_none, seen_old, seen_same, step_new, step_old}
use Rattle.tst_runner.proofs.directories.first_parts.Goals as goal
use Rattle.tst_runner.proofs.directories.first_parts.Goals.{then-new+in_ok-part_nodes+in_ok-push, else-new}

pub loop-k-preserved : goal.loop-k-preserved
loop-k-preserved c =
    let entries = c.args.catalog.now.entries.now in
    let parts = c.args.parts.now in
    let k = c.loop-k.k in
    let part = part_listed c.get-part.result in
    let named = c.loop-k.named.items in
    let seen = table_of c.loop-k.seen in
    let lt : c.loop-k.k < length c.args.parts.now = omega arith in
    let item : part ≡ get_or parts k part = sym (get_or_from_slice_get parts k part part c.get-part.ensures) in
    let entered : table_of c.enter.new.self ≡ with_new seen part.chip tt = c.in_ok-new.ensures.entered ∙ ap (λ (n : List ℕ). with_new seen n tt) c.as_bytes.ensures in
    elim c.if-new.branch [
      | then-new+in_ok-part_nodes+in_ok-push w ↦
          let new = w.in_ok-part_nodes.field-0 in
          let e : c.if-new.named.items ≡ named ++ new ∷ [] = ap (λ v. v.items) w.named-is ∙ w.in_ok-push.ensures.items in
          let made : new ≡ part_nodes entries part = w.in_ok-part_nodes.ensures in
          let more : table_of c.enter.new.self ≡ with_new seen new.chip tt = entered ∙ ap (λ (p : PartNodes). with_new seen p.chip tt) (sym made) in
          record {
            first = λ name. ap (λ parts. part_named parts name) e ∙ step_new entries parts k part new named lt item made c.loop-k.invariant.first name;
            among = subst (All (Contains (map (part_nodes entries) parts))) (sym e) (All-push (Contains (map (part_nodes entries) parts)) named new c.loop-k.invariant.among (new_among entries parts k part new lt item made));
            seen = subst (AreSeen (table_of c.enter.new.self)) (sym e) (seen_more seen (table_of c.enter.new.self) named new more c.loop-k.invariant.seen);
          }
      | else-new w ↦
          let e : c.if-new.named.items ≡ named = ap (λ v. v.items) w.named-is in
          let among : is_some (find_value part.chip seen) ≡ true = ap (λ (n : List ℕ). is_some (find_value n seen)) (sym c.as_bytes.ensures) ∙ seen_old c.in_ok-new.new (is_some (find_value c.as_bytes.result.now seen)) c.in_ok-new.ensures.new w.if-new.false in
          let old = kept_part (part_named named part.chip) (sym (c.loop-k.invariant.seen part.chip) ∙ among) in
          record {
            first = λ name. ap (λ parts. part_named parts name) e ∙ step_old entries parts k part old.0 named lt item old.1 c.loop-k.invariant.first name;
            among = subst (All (Contains (map (part_nodes entries) parts))) (sym e) c.loop-k.invariant.among;
            seen = subst (AreSeen (table_of c.enter.new.self)) (sym e) (seen_same seen (table_of c.enter.new.self) part.chip named entered among c.loop-k.invariant.seen);
          }
    ]

pub returns-clause-among : goal.returns-clause-among
returns-clause-among c = subst (All (Contains (map (part_nodes c.args.catalog.now.entries.now) c.args.parts.now))) (sym c.of.ensures) c.loop-k.invariant.among
