-- What is found for a bit.
use Rattle.std.proofs.Common.{◌≡◌, ℕ, Bool, true, false, cond, ◌&&◌, nat_eq, List, [], ◌∷◌, ◌++◌, map, Option, Some, None, refl, sym, ap, ◌∙◌}
use Rattle.std.specs.Str.{bytes_eq}
use Rattle.std.specs.Map.{lookup}
use Rattle.std.specs.Cmp.Lexicographic.{bytes_decides}
use Rattle.std.proofs.lemmas.Bool.Decides.{Decides-eqb}
use Rattle.indexmap.specs.IndexMap.{insert_entry}
use Rattle.name_table.specs.Names.{first_of}
use Rattle.hdl_check.specs.Tables.{BitOf}
use Rattle.hdl_check.proofs.MarkLemmas.{both}
use Rattle.hdl_flatten.specs.declared.wires.Bit.{Bit}
use Rattle.hdl_flatten.specs.declared.wires.Origin.{Origin}
use Rattle.hdl_flatten.specs.Inner.Wired.{bit_of, seen_wire, found_bit, FindsMore}
use Rattle.hdl_flatten.proofs.Lists.{assoc, nil_after}

abbrev pub same_bit : List ℕ → ℕ → Bit → Bool
same_bit name bit b = bytes_eq name b.name.now && nat_eq bit b.bit

pub wire_at : (name : List ℕ) (bit : ℕ) (es : List (Bit × Origin)) → lookup (λ (k : Bit). same_bit name bit k) es ≡ found_bit name bit (map seen_wire es)
wire_at name bit [] = refl
wire_at name bit (e ∷ es) = ap (λ (o : Option Origin). cond (same_bit name bit e.0) (Some e.1) o) (wire_at name bit es)

entered_by : (b : Bit) (v : Origin) (e : Bit × Origin) (es : List (Bit × Origin)) (t : Bool) → cond t (Some e.1) (found_bit b.name.now b.bit (map seen_wire es)) ≡ None
    → (found_bit b.name.now b.bit (map seen_wire es) ≡ None → map seen_wire (insert_entry (λ x y. same_bit x.name.now x.bit y) es b v) ≡ map seen_wire es ++ (bit_of b, v) ∷ [])
    → map seen_wire (cond t ((e.0, v) ∷ es) (e ∷ insert_entry (λ x y. same_bit x.name.now x.bit y) es b v)) ≡ seen_wire e ∷ (map seen_wire es ++ (bit_of b, v) ∷ [])
entered_by b v e es true h go = absurd cc
entered_by b v e es false h go = ap (λ (t : List (BitOf × Origin)). seen_wire e ∷ t) (go h)

pub entered_at : (b : Bit) (v : Origin) (es : List (Bit × Origin)) → found_bit b.name.now b.bit (map seen_wire es) ≡ None → map seen_wire (insert_entry (λ x y. same_bit x.name.now x.bit y) es b v) ≡ map seen_wire es ++ (bit_of b, v) ∷ []
entered_at b v [] h = refl
entered_at b v (e ∷ es) h = entered_by b v e es (same_bit b.name.now b.bit e.0) h (entered_at b v es)

found_by : {V : Type 0} (b : Bool) (v : V) (o p : Option V) → cond b (Some v) (first_of o p) ≡ first_of (cond b (Some v) o) p
found_by true v o p = refl
found_by false v o p = refl

pub found-append : {V : Type 0} (name : List ℕ) (bit : ℕ) (es fs : List (BitOf × V)) → found_bit name bit (es ++ fs) ≡ first_of (found_bit name bit es) (found_bit name bit fs)
found-append name bit [] fs = refl
found-append {V = V} name bit (e ∷ es) fs = ap (λ (o : Option V). cond (bytes_eq name e.0.name && nat_eq bit e.0.bit) (Some e.1) o) (found-append name bit es fs) ∙ found_by (bytes_eq name e.0.name && nat_eq bit e.0.bit) e.1 (found_bit name bit es) (found_bit name bit fs)

first_some : {V : Type 0} (o a : Option V) (v : V) → o ≡ Some v → o ≡ first_of o a
first_some None a v h = absurd cc
first_some (Some w) a v h = refl

first_none : {V : Type 0} (o : Option V) → o ≡ first_of o None
first_none None = refl
first_none (Some v) = refl

kept_by : (name : List ℕ) (bit : ℕ) (b : BitOf) (v w : Origin) (es : List (BitOf × Origin)) (t : Bool) → (bytes_eq name b.name && nat_eq bit b.bit) ≡ t → found_bit b.name b.bit es ≡ Some w → found_bit name bit es ≡ first_of (found_bit name bit es) (cond t (Some v) None)
kept_by name bit b v w es true e h =
    let p = both (bytes_eq name b.name) (nat_eq bit b.bit) e in
    let same : name ≡ b.name = (bytes_decides name b.name).0 p.0 in
    let at : bit ≡ b.bit = (Decides-eqb bit b.bit).0 p.1 in
    first_some (found_bit name bit es) (Some v) w (ap (λ (n : List ℕ). found_bit n bit es) same ∙ ap (λ (k : ℕ). found_bit b.name k es) at ∙ h)
kept_by name bit b v w es false e h = first_none (found_bit name bit es)

-- a bit that is there stays as it is
pub kept : (b : BitOf) (v w : Origin) (es : List (BitOf × Origin)) → found_bit b.name b.bit es ≡ Some w → FindsMore es es ((b, v) ∷ [])
kept b v w es h name bit = kept_by name bit b v w es (bytes_eq name b.name && nat_eq bit b.bit) refl h ∙ sym (found-append name bit es ((b, v) ∷ []))

-- nothing more, and more after more
pub more_none : (es : List (BitOf × Origin)) → FindsMore es es []
more_none es name bit = ap (found_bit name bit) (sym (nil_after es))

pub more_then : (a b c xs ys : List (BitOf × Origin)) → FindsMore a b xs → FindsMore b c ys → FindsMore a c (xs ++ ys)
more_then a b c xs ys f g name bit =
    g name bit ∙ found-append name bit b ys ∙ ap (λ (o : Option Origin). first_of o (found_bit name bit ys)) (f name bit) ∙ sym (found-append name bit (a ++ xs) ys) ∙ ap (found_bit name bit) (assoc a xs ys)

pub more_is : (a b xs ys : List (BitOf × Origin)) → xs ≡ ys → FindsMore a b xs → FindsMore a b ys
more_is a b xs ys e f name bit = f name bit ∙ ap (λ t. found_bit name bit (a ++ t)) e
