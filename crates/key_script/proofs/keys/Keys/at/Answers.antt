use Rattle.std.proofs.Common.{rules, ◌≡◌, ◌∙◌, sym, ap, subst, List, true}
use Rattle.std.proofs.lemmas.List.Sorted.{IsPartitionPoint-from_clause, IsPartitionedBy-leb}
use Rattle.key_script.specs.declared.lines.Line.{Line}
use Rattle.key_script.specs.Codes.{are_rising, code_at, code_of, has_come}
use Rattle.key_script.proofs.Search.{in_order, code_by}
use Rattle.key_script.proofs.keys.Keys.at.Goals as goal

-- the lines up to the one that is taken are those whose moment has come
pub returns-in-Some : goal.returns-in-Some
returns-in-Some c =
    let seen = c.as_slice-lines.result.now in
    let same = c.as_slice-lines.ensures.value in
    let up = subst (λ (m : List Line). are_rising 0 m ≡ true) (sym same) c.self.invariant in
    let parted = IsPartitionedBy-leb (λ (l : Line). l.moment) seen c.args.c (in_order 0 seen up) in
    let point = IsPartitionPoint-from_clause (has_come c.args.c) seen c.partition_point-come.result c.partition_point-come.ensures.partitioned parted (λ a r q k. search rules) in
    ap code_of c.in-Some.ensures.value ∙ sym (code_by seen c.args.c c.partition_point-come.result point) ∙ ap (λ (m : List Line). code_at m c.args.c) (same ∙ c.self.view_is)

pub returns-in-None : goal.returns-in-None
returns-in-None c =
    let seen = c.as_slice-lines.result.now in
    let same = c.as_slice-lines.ensures.value in
    let up = subst (λ (m : List Line). are_rising 0 m ≡ true) (sym same) c.self.invariant in
    let parted = IsPartitionedBy-leb (λ (l : Line). l.moment) seen c.args.c (in_order 0 seen up) in
    let point = IsPartitionPoint-from_clause (has_come c.args.c) seen c.partition_point-come.result c.partition_point-come.ensures.partitioned parted (λ a r q k. search rules) in
    ap code_of c.in-None.ensures.value ∙ sym (code_by seen c.args.c c.partition_point-come.result point) ∙ ap (λ (m : List Line). code_at m c.args.c) (same ∙ c.self.view_is)
