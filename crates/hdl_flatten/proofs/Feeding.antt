-- The nodes of the bits that are fed.
use Rattle.std.proofs.Common.{◌≡◌, ℕ, zero, suc, ◌+◌, ◌<◌, Bool, true, false, cond, ◌&&◌, nat_eq, List, [], ◌∷◌, ◌++◌, length, map, take, get_or, Option, Some, refl, sym, ap, subst, ◌∙◌, arith}
use Rattle.std.specs.Prelude.{slice_get, slice_index, unwrap_or}
use Rattle.std.specs.Str.{bytes_eq}
use Rattle.hdl_tree.specs.declared.tree.Pin.{Pin}
use Rattle.hdl_check.specs.Tables.{BitOf}
use Rattle.hdl_check.proofs.Rows.{take_next}
use denote.Bor.{Bor}
use Rattle.hdl_flatten.specs.declared.feeds.Feeds.{Feeds}
use Rattle.hdl_flatten.specs.declared.feeds.Feeds.TheVariants as feeds
use Rattle.hdl_flatten.specs.declared.wires.Bit.{Bit}
use Rattle.hdl_flatten.specs.declared.wires.Wires.{Wires}
use Rattle.hdl_flatten.specs.declared.wires.Origin.{Origin}
use Rattle.hdl_flatten.specs.declared.wires.Origin.TheVariants.{Low, Gate}
use Rattle.hdl_flatten.specs.Inner.Wired.{bit_of, wires_of, found_bit, origin_at, origins_at, FindsMore}
use Rattle.hdl_flatten.specs.Inner.Puts.{node_of}
use Rattle.hdl_flatten.specs.Inner.Feeds.{feed_origins}
use Rattle.hdl_flatten.specs.Inner.Fed.{as_nodes, MayFeed}

as_nodes_more : (base : ℕ) (is : List ℕ) (es : List (BitOf × Origin)) (e : BitOf × Origin) → as_nodes base is (es ++ e ∷ []) ≡ as_nodes base is es ++ (e.0, Gate (node_of base is e.1)) ∷ []
as_nodes_more base is [] e = refl
as_nodes_more base is (x ∷ es) e = ap (λ (t : List (BitOf × Origin)). (x.0, Gate (node_of base is x.1)) ∷ t) (as_nodes_more base is es e)

pub as_nodes_next : (base : ℕ) (is : List ℕ) (es : List (BitOf × Origin)) (k : ℕ) (e : BitOf × Origin) → slice_get es k ≡ Some e → as_nodes base is (take k es) ++ (e.0, Gate (node_of base is e.1)) ∷ [] ≡ as_nodes base is (take (k + 1) es)
as_nodes_next base is es k e there = sym (ap (as_nodes base is) (take_next es k e there) ∙ as_nodes_more base is (take k es) e)

node_by : (base : ℕ) (is : List ℕ) (t : Bool) (o : Origin) (p q : Option Origin) → node_of 0 [] (unwrap_or p Low) ≡ node_of base is (unwrap_or q Low) → node_of 0 [] (unwrap_or (cond t (Some (Gate (node_of base is o))) p) Low) ≡ node_of base is (unwrap_or (cond t (Some o) q) Low)
node_by base is true o p q h = omega arith
node_by base is false o p q h = h

node_found : (base : ℕ) (is : List ℕ) (name : List ℕ) (bit : ℕ) (es : List (BitOf × Origin)) → node_of 0 [] (origin_at (as_nodes base is es) name bit) ≡ node_of base is (origin_at es name bit)
node_found base is name bit [] = refl
node_found base is name bit (e ∷ es) = node_by base is (bytes_eq name e.0.name && nat_eq bit e.0.bit) e.1 (found_bit name bit (as_nodes base is es)) (found_bit name bit es) (node_found base is name bit es)

pub nodes_found : (base : ℕ) (is : List ℕ) (new es : List (BitOf × Origin)) → FindsMore [] new (as_nodes base is es) → (name : List ℕ) (bit : ℕ) → node_of 0 [] (origin_at new name bit) ≡ node_of base is (origin_at es name bit)
nodes_found base is new es h name bit = ap (λ (o : Option Origin). node_of 0 [] (unwrap_or o Low)) (h name bit) ∙ node_found base is name bit es

pub nodes_same : (base : ℕ) (is : List ℕ) (new es : List (BitOf × Origin)) → ((name : List ℕ) (bit : ℕ) → node_of 0 [] (origin_at new name bit) ≡ node_of base is (origin_at es name bit)) → (bits : List BitOf) → map (node_of 0 []) (origins_at new bits) ≡ map (node_of base is) (origins_at es bits)
nodes_same base is new es h [] = refl
nodes_same base is new es h (b ∷ bits) = ap (λ (n : ℕ). n ∷ map (node_of 0 []) (origins_at new bits)) (h b.name b.bit) ∙ ap (λ (t : List ℕ). node_of base is (origin_at es b.name b.bit) ∷ t) (nodes_same base is new es h bits)

-- ---- one bit

pub length_few : (f : Origin → ℕ) (es : List (BitOf × Origin)) (bits : List Bit) → length (map f (origins_at es (map bit_of bits))) ≡ length bits
length_few f es [] = refl
length_few f es (b ∷ bits) = ap suc (length_few f es bits)

pub few_at : (f : Origin → ℕ) (es : List (BitOf × Origin)) (bits : List Bit) (k : ℕ) (d : Bit) → k < length bits → f (origin_at es (get_or bits k d).name.now (get_or bits k d).bit) ≡ slice_index (map f (origins_at es (map bit_of bits))) k
few_at f es [] k d lt = absurd (omega (arith, lt))
few_at f es (x ∷ bits) zero d lt = refl
few_at f es (x ∷ bits) (suc k) d lt = few_at f es bits k d (omega (arith, lt))

-- ---- few bits

pub feeds_placed : (base : ℕ) (is : List ℕ) (f : Feeds) (pins : Bor (List Pin)) (w : Wires) (new : List (BitOf × Origin)) (bits : List BitOf) → f ≡ feeds.Few pins w → MayFeed (length is) f bits → ((name : List ℕ) (bit : ℕ) → node_of 0 [] (origin_at new name bit) ≡ node_of base is (origin_at (wires_of w) name bit)) → map (node_of 0 []) (origins_at new bits) ≡ map (node_of base is) (feed_origins f)
feeds_placed base is f pins w new bits e may h =
    let m : MayFeed (length is) (feeds.Few pins w) bits = subst (λ (x : Feeds). MayFeed (length is) x bits) e may in
    nodes_same base is new (wires_of w) h bits ∙ ap (λ (bs : List BitOf). map (node_of base is) (origins_at (wires_of w) bs)) (sym m.0) ∙ ap (λ (x : Feeds). map (node_of base is) (feed_origins x)) (sym e)
