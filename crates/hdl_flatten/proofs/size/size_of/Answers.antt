use Rattle.std.proofs.Common.{◌≡◌, ℕ, ◌<◌, List, ◌∷◌, length, suc, Some, sym, ap, subst, ◌∙◌, arith}
use Rattle.std.specs.Prelude.{slice_get, slice_index_or}
use Rattle.std.specs.List.{All}
use Rattle.std.proofs.lemmas.Option.{slice_get-get_or}
use Rattle.hdl_flatten.specs.declared.size.Size.{Size}
use Rattle.hdl_flatten.specs.Inner.Sizes.{all_joined}
use Rattle.hdl_flatten.proofs.Sizing.{joined_next, joined_small}
use Rattle.hdl_flatten.proofs.size.size_of.Goals as goal

tail_all : (n x : ℕ) (xs : List ℕ) → ((k d : ℕ) → k < length (x ∷ xs) → slice_index_or (x ∷ xs) k d < n) → (k d : ℕ) → k < length xs → slice_index_or xs k d < n
tail_all n x xs h k d lt = h (suc k) d (omega (arith, lt))

pub loop-place-preserved : goal.loop-place-preserved
loop-place-preserved c =
    let sizes = c.args.sizes.now in
    let place = c.in-Some.place.now in
    let others = c.in-Some.others.now in
    let rest : c.loop-place.rest.now ≡ place ∷ others = c.in-Some.ensures.cases.0 in
    let all : (k d : ℕ) → k < length (place ∷ others) → slice_index_or (place ∷ others) k d < length sizes = subst (λ (rs : List ℕ). All (λ r. r < length sizes) rs) rest c.loop-place.invariant.within in
    let lt : place < length sizes = all 0 0 (omega arith) in
    let got : slice_get sizes place ≡ Some (slice_index_or sizes place (record { nodes = 0; parts = 0 })) = slice_get-get_or sizes place (record { nodes = 0; parts = 0 }) lt in
    record {
      sum = ap (λ (s : Size). all_joined sizes s others) c.join-size.ensures ∙ joined_next sizes c.loop-place.size (slice_index_or sizes place (record { nodes = 0; parts = 0 })) place others got ∙ ap (all_joined sizes c.loop-place.size) (sym rest) ∙ c.loop-place.invariant.sum;
      small = joined_small c.loop-place.size (slice_index_or sizes place (record { nodes = 0; parts = 0 })) c.join-size.result c.join-size.ensures;
      within = tail_all (length sizes) place others all;
    }
