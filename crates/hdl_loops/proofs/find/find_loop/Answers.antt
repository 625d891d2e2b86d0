use Rattle.std.proofs.Common.{◌≡◌, ℕ, List, Option, Some}
use Rattle.std.specs.Prelude.{slice_get}
use Rattle.std.proofs.lemmas.Result.{IfOk-weaker}
use Rattle.hdl_loops.specs.Inner.Knowing.{KnowNothing}
use Rattle.hdl_loops.specs.declared.known.Known.{Known}
use Rattle.hdl_loops.proofs.Tops.{top_has_none, top_nests}
use Rattle.hdl_loops.proofs.Outward.{top_has_loop}
use Rattle.hdl_loops.proofs.find.find_loop.Goals as goal

nothing : (own known : List (Option Known)) → own ≡ known → KnowNothing known → (k : ℕ) (inside : Known) → slice_get own k ≡ Some (Some inside) → ⊥
nothing own known same none k inside h = let there : slice_get known k ≡ Some (Some inside) = cc in none k inside there

pub find_in-requires-clause-right : goal.find_in-requires-clause-right
find_in-requires-clause-right c = λ k chip inside there h. absurd (nothing c.deref_mut.result.now c.in_ok-known.known.items c.deref_mut.ensures.value c.in_ok-known.ensures.none k inside h)

pub find_in-requires-clause-nests : goal.find_in-requires-clause-nests
find_in-requires-clause-nests c = top_nests c.as_slice-entries.result.now c.args.library.now.entries c.args.memories c.in-Some.k c.as_bytes.result.now c.args.top.now c.as_slice-entries.ensures c.as_bytes.ensures (c.in-Some.ensures.found c.as_slice-entries.result.now c.in_ok-places.ensures).1 c.requires

pub returns-clause-none : goal.returns-clause-none
returns-clause-none c =
    IfOk-weaker c.find_in.result _ _
    (λ r h none. top_has_none c.as_slice-entries.result.now c.args.library.now.entries c.args.memories c.in-Some.k c.as_bytes.result.now c.args.top.now c.as_slice-entries.ensures c.as_bytes.ensures (c.in-Some.ensures.found c.as_slice-entries.result.now c.in_ok-places.ensures).1 c.requires (h none))
    c.find_in.ensures.none

pub returns-clause-told : goal.returns-clause-told
returns-clause-told c =
    IfOk-weaker c.find_in.result _ _
    (top_has_loop c.as_slice-entries.result.now c.args.library.now.entries c.args.memories c.in-Some.k c.as_bytes.result.now c.args.top.now c.as_slice-entries.ensures c.as_bytes.ensures (c.in-Some.ensures.found c.as_slice-entries.result.now c.in_ok-places.ensures).0 (c.in-Some.ensures.found c.as_slice-entries.result.now c.in_ok-places.ensures).1)
    c.find_in.ensures.told
