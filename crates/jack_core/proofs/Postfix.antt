-- Parts in postfix order over other expressions.
use Rattle.std.proofs.Common.{◌≡◌, ℕ, ◌+◌, ◌-◌, ◌≤◌, Bool, true, false, List, [], ◌∷◌, ◌++◌, Option, Some, None, length, take, drop, reverse, refl, ap, ◌∙◌, subst, arith}
use Rattle.std.proofs.lemmas.Bool.{leb-true, le-leb}
use Rattle.std.proofs.lemmas.List.{take-append-le, drop-append-le, length-drop}
use Rattle.std.specs.Prelude.{nat_le, if◌then◌else◌}
use Rattle.jack_meaning.specs.Text.{Expression as AnExpression}
use Rattle.jack_core.specs.declared.tree.Part.{Part}
use Rattle.jack_core.specs.declared.tree.Expression.{Expression}
use Rattle.jack_core.specs.Heights.{takes, height}
use Rattle.jack_core.specs.Reading.{make_expression, put, build_expressions, operand, the_expression}

-- the parts of one expression after those of others
pub built_more : (es : List AnExpression) (ps qs : List Part) → build_expressions es (ps ++ qs) ≡ build_expressions (build_expressions es ps) qs
built_more es [] qs = refl
built_more es (p ∷ ps) qs = built_more (put p es) ps qs

pub some_is : {A : Type 0} {x y : A} → Some x ≡ Some y → x ≡ y
some_is {A} {x} {y} e = cc

-- a part that comes first finds its operands
test_of : (b : Bool) (o : Option ℕ) (k : ℕ) → (if b then o else None) ≡ Some k → b ≡ true
test_of true o k e = refl
test_of false o k e = cc

rest_of : (b : Bool) (o : Option ℕ) (k : ℕ) → (if b then o else None) ≡ Some k → o ≡ Some k
rest_of true o k e = e
rest_of false o k e = cc

pub enough : (h k : ℕ) (p : Part) (ps : List Part) → height h (p ∷ ps) ≡ Some k → takes p ≤ h
enough h k p ps e = leb-true (takes p) h (test_of (nat_le (takes p) h) (height (h - takes p + 1) ps) k e)

pub behind : (h k : ℕ) (p : Part) (ps : List Part) → height h (p ∷ ps) ≡ Some k → height (h - takes p + 1) ps ≡ Some k
behind h k p ps e = rest_of (nat_le (takes p) h) (height (h - takes p + 1) ps) k e

-- a part that finds its operands, and others after it
pub height_first : (h : ℕ) (p : Part) (ps : List Part) → takes p ≤ h → height h (p ∷ ps) ≡ height (h - takes p + 1) ps
height_first h p ps le = ap (λ b. if b then height (h - takes p + 1) ps else None) (le-leb (takes p) h le)

pub height_more : (h k : ℕ) (ps qs : List Part) → height h ps ≡ Some k → height h (ps ++ qs) ≡ height k qs
height_more h k [] qs e = ap (λ x. height x qs) (some_is e)
height_more h k (p ∷ ps) qs e =
    height_first h p (ps ++ qs) (enough h k p ps e) ∙ height_more (h - takes p + 1) k ps qs (behind h k p ps e)

-- a part with enough operands leaves what is below them alone
pub put_over : (p : Part) (es low : List AnExpression) → takes p ≤ length es → put p (es ++ low) ≡ put p es ++ low
put_over p es low le =
    ap (λ xs. make_expression p (reverse xs) ∷ drop (takes p) (es ++ low)) (take-append-le (takes p) es low le)
    ∙ ap (λ xs. make_expression p (reverse (take (takes p) es)) ∷ xs) (drop-append-le (takes p) es low le)

pub put_length : (p : Part) (es : List AnExpression) → takes p ≤ length es → length (put p es) ≡ length es - takes p + 1
put_length p es le = omega (arith, le, length-drop (takes p) es)

-- Parts that find their operands leave what is below those alone, and this many expressions are there after
-- them.
pub built_over : (k : ℕ) (es low : List AnExpression) (ps : List Part) → height (length es) ps ≡ Some k → build_expressions (es ++ low) ps ≡ build_expressions es ps ++ low
built_over k es low [] e = refl
built_over k es low (p ∷ ps) e =
    let le = enough (length es) k p ps e in
    ap (λ xs. build_expressions xs ps) (put_over p es low le)
    ∙ built_over k (put p es) low ps (ap (λ h. height h ps) (put_length p es le) ∙ behind (length es) k p ps e)

pub built_length : (k : ℕ) (es : List AnExpression) (ps : List Part) → height (length es) ps ≡ Some k → length (build_expressions es ps) ≡ k
built_length k es [] e = some_is e
built_length k es (p ∷ ps) e =
    let le = enough (length es) k p ps e in
    built_length k (put p es) ps (ap (λ h. height h ps) (put_length p es le) ∙ behind (length es) k p ps e)

none : (es : List AnExpression) → es ≡ [] → length es ≡ 1 → ⊥
none es h e =
    let zero : length es ≡ 0 = ap length h in
    omega (arith, e, zero)

two : {A : Type 0} (x y : A) (es : List A) → length (x ∷ y ∷ es) ≡ 1 → ⊥
two x y es e = omega (arith, e)

only : (es : List AnExpression) → length es ≡ 1 → es ≡ operand 0 es ∷ []
only [] e = absurd (none [] refl e)
only (x ∷ []) e = refl
only (x ∷ y ∷ es) e = absurd (two x y es e)

-- the parts of an expression, after others, add that one
pub spells : (low : List AnExpression) (e : Expression) → build_expressions low e.parts ≡ the_expression e ∷ low
spells low e =
    built_over 1 [] low e.parts e.one ∙ ap (λ xs. xs ++ low) (only (build_expressions [] e.parts) (built_length 1 [] e.parts e.one))

raised : (l h : ℕ) (ps : List Part) (k : ℕ) → height l ps ≡ Some k → height (h + l) ps ≡ Some (h + k)
raised l h [] k e = ap (λ x. Some (h + x)) (some_is e)
raised l h (p ∷ ps) k e =
    let le = enough l k p ps e in
    let le' : takes p ≤ h + l = omega (arith, le) in
    let same : h + l - takes p + 1 ≡ h + (l - takes p + 1) = omega (arith, le) in
    height_first (h + l) p ps le' ∙ ap (λ x. height x ps) same ∙ raised (l - takes p + 1) h ps k (behind l k p ps e)

-- parts that leave this many leave as many more over others
pub height_over : (h k : ℕ) (ps : List Part) → height 0 ps ≡ Some k → height h ps ≡ Some (h + k)
height_over h k ps e =
    let same : h + 0 ≡ h = omega arith in
    subst (λ x. height x ps ≡ Some (h + k)) same (raised 0 h ps k e)
