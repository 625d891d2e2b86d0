use Rattle.std.proofs.Common.{◌≡◌, ℕ, List, [], ◌∷◌, ◌++◌, length, ap, ◌∙◌, arith}
use Rattle.std.specs.Prelude.{Some}
use Rattle.hdl_flatten.specs.declared.flat.PartAt.{PartAt}
use Rattle.hdl_flatten.specs.declared.parts.Kind.{Kind}
use Rattle.hdl_flatten.proofs.Heads.{heads_stay, one_more}
use Rattle.hdl_flatten.proofs.parts.Parts.push.Goals as goal

pub invariant_of-self-2 : goal.invariant_of-self-2
invariant_of-self-2 c =
    let old = c.self.inside in
    let part = c.args.part in
    let nodes = c.in_ok-extend_from_slice.ensures.items ∙ ap (λ (t : List ℕ). old.nodes.items ++ t) c.as_slice-2.ensures in
    let from : c.in_ok-from.from ≡ length old.nodes.items = let e = c.in_ok-from.ensures in omega (arith, e, c.len.ensures, old.nodes.ok.0) in
    let width : c.in_ok-width.width ≡ length part.outs = c.in_ok-width.ensures ∙ ap length c.as_slice.ensures in
    let with_width : ℕ → Kind = λ n. record { chip = part.chip; outs = n; block = part.block } in
    let kind = c.in_ok-kind.ensures.there ∙ ap (λ (n : ℕ). Some (with_width n)) width in
    heads_stay old.kinds.items c.number_of.new.kinds.items old.nodes.items c.extend_from_slice.new.self.items old.heads.items c.push.new.self.items part _ c.self.invariant c.number_of.ensures.more kind nodes from c.in_ok-push.ensures.items

pub returns : goal.returns
returns c =
    let old = c.self.inside in
    let part = c.args.part in
    let nodes = c.in_ok-extend_from_slice.ensures.items ∙ ap (λ (t : List ℕ). old.nodes.items ++ t) c.as_slice-2.ensures in
    let from : c.in_ok-from.from ≡ length old.nodes.items = let e = c.in_ok-from.ensures in omega (arith, e, c.len.ensures, old.nodes.ok.0) in
    let width : c.in_ok-width.width ≡ length part.outs = c.in_ok-width.ensures ∙ ap length c.as_slice.ensures in
    let with_width : ℕ → Kind = λ n. record { chip = part.chip; outs = n; block = part.block } in
    let kind = c.in_ok-kind.ensures.there ∙ ap (λ (n : ℕ). Some (with_width n)) width in
    one_more old.kinds.items c.number_of.new.kinds.items old.nodes.items c.extend_from_slice.new.self.items old.heads.items c.push.new.self.items part _ c.self.invariant c.number_of.ensures.more kind nodes from c.in_ok-push.ensures.items
    ∙ ap (λ (ps : List PartAt). ps ++ part ∷ []) c.self.view_is
