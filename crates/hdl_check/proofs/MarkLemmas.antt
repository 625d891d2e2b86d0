-- Marking one bit more, and asking for several.
use Rattle.std.proofs.Common.{◌≡◌, ℕ, zero, suc, ◌+◌, ◌-◌, ◌<◌, arith, add-zero, add-suc, Bool, true, false, cond, ◌&&◌, ◌||◌, nat_eq, List, [], ◌∷◌, ◌++◌, refl, sym, ap, ◌∙◌}
use Rattle.std.specs.Str.{bytes_eq}
use Rattle.std.specs.List.{list_any}
use Rattle.std.specs.Cmp.Lexicographic.{bytes_decides}
use Rattle.std.proofs.lemmas.Bool.Decides.{Decides-eqb}
use Rattle.hdl_check.specs.Tables.{BitOf, bits_of, is_in, some_in}
use Rattle.hdl_check.specs.Inner.Marked.{is_mark, is_marked, some_marked, HasMarks, MarksMore}
use Rattle.hdl_check.specs.declared.marks.Mark.{Mark}
use Rattle.hdl_check.specs.declared.marks.Marks.{Marks}

pub or_assoc : (a b c : Bool) → ((a || b) || c) ≡ (a || (b || c))
or_assoc true b c = refl
or_assoc false b c = refl

pub or_false : (a : Bool) → (a || false) ≡ a
or_false true = refl
or_false false = refl

pub both : (a b : Bool) → (a && b) ≡ true → (a ≡ true) × (b ≡ true)
both true b h = (refl, h)
both false b h = absurd cc

any_append : {A : Type 0} (p : A → Bool) (xs ys : List A) → list_any p (xs ++ ys) ≡ (list_any p xs || list_any p ys)
any_append p [] ys = refl
any_append p (x ∷ xs) ys = ap (λ b. p x || b) (any_append p xs ys) ∙ sym (or_assoc (p x) (list_any p xs) (list_any p ys))

or_same : (a b : Bool) → (b ≡ true → a ≡ true) → a ≡ (a || b)
or_same true b h = refl
or_same false true h = h refl
or_same false false h = refl

marked_same : (v : Mark) (name : List ℕ) (bit : ℕ) (ms : List Mark) → is_mark name bit v ≡ true → list_any (is_mark v.name.now v.bit) ms ≡ true → list_any (is_mark name bit) ms ≡ true
marked_same v name bit ms h k =
    let b = both (bytes_eq name v.name.now) (nat_eq bit v.bit) h in
    let e : name ≡ v.name.now = (bytes_decides name v.name.now).0 b.0 in
    let f : bit ≡ v.bit = (Decides-eqb bit v.bit).0 b.1 in
    ap (λ (n : List ℕ). list_any (is_mark n bit) ms) e ∙ ap (λ (m : ℕ). list_any (is_mark v.name.now m) ms) f ∙ k

marked_by : (b : Bool) (v : Mark) (name : List ℕ) (bit : ℕ) (ms : List Mark) → list_any (is_mark v.name.now v.bit) ms ≡ b →
    list_any (is_mark name bit) (cond b ms (ms ++ v ∷ [])) ≡ (list_any (is_mark name bit) ms || (is_mark name bit v || false))
marked_by true v name bit ms h = or_same (list_any (is_mark name bit) ms) (is_mark name bit v || false) (λ k. marked_same v name bit ms (sym (or_false (is_mark name bit v)) ∙ k) h)
marked_by false v name bit ms h = any_append (is_mark name bit) ms (v ∷ [])

pub marked_more : (v : Mark) (name : List ℕ) (bit : ℕ) (ms : List Mark) →
    list_any (is_mark name bit) (cond (list_any (is_mark v.name.now v.bit) ms) ms (ms ++ v ∷ [])) ≡ (list_any (is_mark name bit) ms || (is_mark name bit v || false))
marked_more v name bit ms = marked_by (list_any (is_mark v.name.now v.bit) ms) v name bit ms refl

pub is_in-append : (name : List ℕ) (bit : ℕ) (xs ys : List BitOf) → is_in name bit (xs ++ ys) ≡ (is_in name bit xs || is_in name bit ys)
is_in-append name bit [] ys = refl
is_in-append name bit (x ∷ xs) ys = ap (λ b. (bytes_eq name x.name && nat_eq bit x.bit) || b) (is_in-append name bit xs ys) ∙ sym (or_assoc (bytes_eq name x.name && nat_eq bit x.bit) (is_in name bit xs) (is_in name bit ys))

pub some_marked-append : (marks : Marks) (xs ys : List BitOf) → some_marked marks (xs ++ ys) ≡ (some_marked marks xs || some_marked marks ys)
some_marked-append marks [] ys = refl
some_marked-append marks (x ∷ xs) ys = ap (λ b. is_marked marks x.name x.bit || b) (some_marked-append marks xs ys) ∙ sym (or_assoc (is_marked marks x.name x.bit) (some_marked marks xs) (some_marked marks ys))

-- more bits after more bits
pub more_then : (old mid new : Marks) (xs ys : List BitOf) → MarksMore old mid xs → MarksMore mid new ys → MarksMore old new (xs ++ ys)
more_then old mid new xs ys h k name bit =
    k name bit ∙ ap (λ b. b || is_in name bit ys) (h name bit) ∙ or_assoc (is_marked old name bit) (is_in name bit xs) (is_in name bit ys)
    ∙ ap (λ b. is_marked old name bit || b) (sym (is_in-append name bit xs ys))

pub more_none : (marks : Marks) → MarksMore marks marks []
more_none marks name bit = sym (or_false (is_marked marks name bit))

pub has_more : (old new : Marks) (bs xs : List BitOf) → HasMarks old bs → MarksMore old new xs → HasMarks new (bs ++ xs)
has_more old new bs xs h k name bit = k name bit ∙ ap (λ b. b || is_in name bit xs) (h name bit) ∙ sym (is_in-append name bit bs xs)

-- asking for marks is asking for the bits that are marked
pub some_marked_is : (marks : Marks) (those bs : List BitOf) → HasMarks marks those → some_marked marks bs ≡ some_in bs those
some_marked_is marks those [] h = refl
some_marked_is marks those (b ∷ bs) h = ap (λ x. x || some_marked marks bs) (h b.name b.bit) ∙ ap (λ x. is_in b.name b.bit those || x) (some_marked_is marks those bs h)

-- one bit of a span
pub span_has : (marks : Marks) (name : List ℕ) (from : ℕ) (k : ℕ) → is_marked marks name (from + k) ≡ false → some_marked marks (bits_of name from k) ≡ false → some_marked marks (bits_of name from (suc k)) ≡ false
span_has marks name from k h g = some_marked-append marks (bits_of name from k) _ ∙ ap (λ b. b || (is_marked marks name (from + k) || false)) g ∙ or_false (is_marked marks name (from + k)) ∙ h

or_true : (a : Bool) → (a || true) ≡ true
or_true true = refl
or_true false = refl

span_at : (marks : Marks) (name : List ℕ) (from : ℕ) (k : ℕ) → is_marked marks name (from + k) ≡ true → some_marked marks (bits_of name from (suc k)) ≡ true
span_at marks name from k h = some_marked-append marks (bits_of name from k) _ ∙ ap (λ (b : Bool). some_marked marks (bits_of name from k) || (b || false)) h ∙ or_true (some_marked marks (bits_of name from k))

or_left : (a b : Bool) → a ≡ true → (a || b) ≡ true
or_left true b h = refl
or_left false b h = absurd cc

-- a span with a bit in it that is marked; n more bits follow that one
span_more : (marks : Marks) (name : List ℕ) (from k n : ℕ) → is_marked marks name (from + k) ≡ true → some_marked marks (bits_of name from (suc (k + n))) ≡ true
span_more marks name from k zero h = rw add-zero (span_at marks name from k h)
span_more marks name from k (suc n) h = rw add-suc (some_marked-append marks (bits_of name from (suc (k + n))) _ ∙ or_left (some_marked marks (bits_of name from (suc (k + n)))) _ (span_more marks name from k n h))

pub span_within : (marks : Marks) (name : List ℕ) (from k n : ℕ) → k < n → is_marked marks name (from + k) ≡ true → some_marked marks (bits_of name from n) ≡ true
span_within marks name from k n lt h =
    let e : suc (k + (n - suc k)) ≡ n = omega arith in
    ap (λ (m : ℕ). some_marked marks (bits_of name from m)) (sym e) ∙ span_more marks name from k (n - suc k) h
