-- A computation is entered by its first letter.
use Rattle.std.proofs.Common.{◌≡◌, ℕ, Bool, true, false, cond, List, [], ◌∷◌, Option, Some, None, refl, sym, ap, subst, ◌∙◌}
use Rattle.std.specs.Prelude.{◌&&◌, ◌||◌}
use Rattle.scan_text.specs.declared.Place.{Place}
use Rattle.grammar.specs.declared.Fault.{Fault}
use Rattle.grammar.specs.Rules.{seq, choice, begins, Skip, Leaf, Pair, Left, Right, Absent, Present, enters, next, Reads, marked, worded, both, left, passed, taken, Stops, second, in_left, in_option}
use Rattle.grammar.proofs.Steps.{next_left, next_right}
use Rattle.hack_asm.specs.declared.token.Letter.{Letter}
use Rattle.hack_asm.specs.declared.token.Letter.TheVariants.{Zero, One, A, D, M}
use Rattle.hack_asm.specs.declared.token.Operator.{Operator}
use Rattle.hack_asm.specs.declared.token.Operator.TheVariants.{Plus, Minus, And, Or}
use Rattle.hack_asm.specs.declared.token.Role.{Role}
use Rattle.hack_asm.specs.declared.token.Role.TheVariants as role
use Rattle.hack_asm.specs.declared.words.Before.{Before}
use Rattle.hack_asm.specs.declared.words.Before.TheVariants.{Sum, Join}
use Rattle.hack_asm.specs.Tokens.{Word}
use Rattle.hack_asm.specs.Grammar.{Said, Letter', Operator', Shift', Part, assembly, letter_role, role_said, operator_role, is_zero, is_one, is_a, is_d, is_m, by_letter, some_letter, operation, shift, shifts, shift_role, behind, is_register, adds, meets, assigns, assignment, after_letter, comp, sign, unary, assignment_part, several_role, is_several, Several}
use Rattle.hack_asm.specs.Trees.{AsmTree, branch, other, operation_tree}
use Rattle.hack_asm.specs.Inner.Before.{letter_by, letter_next, operator_by, operator_next, shift_by, shift_next, assigns_next, several_by, several_next, suits}
use Rattle.grammar.proofs.Entered.{firm, entered, skip, skip_stops}

abbrev pub R : Place → Part → List Word → AsmTree → List Word → Type 0
R end r ts x us = Reads Word (Unit {0}) (Unit {0}) Said (assembly end) tt r ts x tt us

abbrev pub F : Place → Part → List Word → Fault → Type 0
F end r ts f = Stops Word (Unit {0}) (Unit {0}) Said (assembly end) tt r ts f

-- a token of this role, and what is left after it
pub record Comes (r : Role) (ts us : List Word) : Type 0 where
  pub token : Word
  pub is : ts ≡ token ∷ us
  pub role : token.role ≡ r

letter_at : (r : Role) (w : Word) (ws : List Word) (x : Letter) (us : List Word) → w.role ≡ r → letter_by r ws ≡ Some (x, us) → Comes (role.Letter x) (w ∷ ws) us
letter_at (role.Letter y) w ws x us e h =
    let p : (y, ws) ≡ (x, us) = cc in
    record { token = w; is = ap (λ (q : Letter × List Word). w ∷ q.1) p; role = e ∙ ap (λ (q : Letter × List Word). role.Letter q.0) p }
letter_at (role.Operator op) w ws x us e h = absurd cc
letter_at (role.Several n) w ws x us e h = absurd cc
letter_at (role.Jump n) w ws x us e h = absurd cc
letter_at (role.Shift n) w ws x us e h = absurd cc
letter_at role.Plain w ws x us e h = absurd cc

pub letter_comes : (ts : List Word) (x : Letter) (us : List Word) → letter_next ts ≡ Some (x, us) → Comes (role.Letter x) ts us
letter_comes [] x us h = absurd cc
letter_comes (w ∷ ws) x us h = letter_at w.role w ws x us refl h

no_letter_by : (p : Letter → Bool) (r : Role) (ws : List Word) → letter_by r ws ≡ None → letter_role p r ≡ false
no_letter_by p (role.Letter y) ws h = absurd cc
no_letter_by p (role.Operator op) ws h = refl
no_letter_by p (role.Several n) ws h = refl
no_letter_by p (role.Jump n) ws h = refl
no_letter_by p (role.Shift n) ws h = refl
no_letter_by p role.Plain ws h = refl

pub no_letter : (p : Letter → Bool) (ts : List Word) → letter_next ts ≡ None → next (λ t. letter_role p t.role) ts ≡ false
no_letter p [] h = refl
no_letter p (w ∷ ws) h = no_letter_by p w.role ws h

module _ (end : Place) (behind : Letter → Part) (o : Part) where
  at_letter : (x : Letter) (w : Word) (us vs : List Word) (t : AsmTree) → w.role ≡ role.Letter x → R end (behind x) us t vs → R end (by_letter behind o) (w ∷ us) (branch x t) vs
  at_letter Zero w us vs t e p = let h = ap (letter_role is_zero) e in left h (both (marked h) p)
  at_letter One w us vs t e p = let h = ap (letter_role is_one) e in skip (ap (letter_role is_zero) e) refl (left h (both (marked h) p))
  at_letter A w us vs t e p = let h = ap (letter_role is_a) e in skip (ap (letter_role is_zero) e) refl (skip (ap (letter_role is_one) e) refl (left h (both (marked h) p)))
  at_letter D w us vs t e p = let h = ap (letter_role is_d) e in skip (ap (letter_role is_zero) e) refl (skip (ap (letter_role is_one) e) refl (skip (ap (letter_role is_a) e) refl (left h (both (marked h) p))))
  at_letter M w us vs t e p = let h = ap (letter_role is_m) e in skip (ap (letter_role is_zero) e) refl (skip (ap (letter_role is_one) e) refl (skip (ap (letter_role is_a) e) refl (skip (ap (letter_role is_d) e) refl (left h (both (marked h) p)))))

  stops_at_letter : (x : Letter) (w : Word) (us : List Word) (f : Fault) → w.role ≡ role.Letter x → F end (behind x) us f → F end (by_letter behind o) (w ∷ us) f
  stops_at_letter Zero w us f e p = let h = ap (letter_role is_zero) e in in_left h (second (marked h) p)
  stops_at_letter One w us f e p = let h = ap (letter_role is_one) e in skip_stops (ap (letter_role is_zero) e) refl (in_left h (second (marked h) p))
  stops_at_letter A w us f e p = let h = ap (letter_role is_a) e in skip_stops (ap (letter_role is_zero) e) refl (skip_stops (ap (letter_role is_one) e) refl (in_left h (second (marked h) p)))
  stops_at_letter D w us f e p = let h = ap (letter_role is_d) e in skip_stops (ap (letter_role is_zero) e) refl (skip_stops (ap (letter_role is_one) e) refl (skip_stops (ap (letter_role is_a) e) refl (in_left h (second (marked h) p))))
  stops_at_letter M w us f e p = let h = ap (letter_role is_m) e in skip_stops (ap (letter_role is_zero) e) refl (skip_stops (ap (letter_role is_one) e) refl (skip_stops (ap (letter_role is_a) e) refl (skip_stops (ap (letter_role is_d) e) refl (in_left h (second (marked h) p)))))

  pub with_letter : {x : Letter} {ts us vs : List Word} {t : AsmTree} → letter_next ts ≡ Some (x, us) → R end (behind x) us t vs → R end (by_letter behind o) ts (branch x t) vs
  with_letter {x = x} {ts = ts} {us = us} {vs = vs} {t = t} e p =
      let c = letter_comes ts x us e in
      subst (λ (l : List Word). R end (by_letter behind o) l (branch x t) vs) (sym c.is) (at_letter x c.token us vs t c.role p)

  pub with_letter_stops : {x : Letter} {ts us : List Word} {f : Fault} → letter_next ts ≡ Some (x, us) → F end (behind x) us f → F end (by_letter behind o) ts f
  with_letter_stops {x = x} {ts = ts} {us = us} {f = f} e p =
      let c = letter_comes ts x us e in
      subst (λ (l : List Word). F end (by_letter behind o) l f) (sym c.is) (stops_at_letter x c.token us f c.role p)

  pub without_letter : {ts us : List Word} {t : AsmTree} → letter_next ts ≡ None → firm o ≡ true → R end o ts t us → R end (by_letter behind o) ts (other t) us
  without_letter {ts = ts} e h p =
      skip (no_letter is_zero ts e) refl (skip (no_letter is_one ts e) refl (skip (no_letter is_a ts e) refl (skip (no_letter is_d ts e) refl (skip (no_letter is_m ts e) h p))))

  pub without_letter_stops : {ts : List Word} {f : Fault} → letter_next ts ≡ None → firm o ≡ true → F end o ts f → F end (by_letter behind o) ts f
  without_letter_stops {ts = ts} e h p =
      skip_stops (no_letter is_zero ts e) refl (skip_stops (no_letter is_one ts e) refl (skip_stops (no_letter is_a ts e) refl (skip_stops (no_letter is_d ts e) refl (skip_stops (no_letter is_m ts e) h p))))

-- Operations

-- what an operator is after a letter
data Opened (x : Letter) (op : Operator) : Before → Type 0 where
  sum : adds x op ≡ true → Opened x op (Sum x)
  join : adds x op ≡ false → meets x op ≡ true → Opened x op (Join x)

record Operated (x : Letter) (op : Operator) (before : Before) (ts us : List Word) : Type 0 where
  comes : Comes (role.Operator op) ts us
  opened : Opened x op before

abbrev triple : Operator → Before → List Word → Operator × Before × List Word
triple op b us = (op, b, us)

operated_as : (x : Letter) (op : Operator) (b : Before) (ts us : List Word) (op' : Operator) (b' : Before) (us' : List Word) → triple op b us ≡ triple op' b' us' → Operated x op b ts us → Operated x op' b' ts us'
operated_as x op b ts us op' b' us' e h = subst (λ (q : Operator × Before × List Word). Operated x q.0 q.1 ts q.2) e h

operated_by : (x : Letter) (op : Operator) (w : Word) (ws : List Word) (op' : Operator) (b' : Before) (us : List Word) (p q : Bool) → adds x op ≡ p → meets x op ≡ q → w.role ≡ role.Operator op → cond {A = Option (Operator × Before × List Word)} p (Some (op, Sum x, ws)) (cond {A = Option (Operator × Before × List Word)} q (Some (op, Join x, ws)) None) ≡ Some (op', b', us) → Operated x op' b' (w ∷ ws) us
operated_by x op w ws op' b' us true q a m e h =
    let same : triple op (Sum x) ws ≡ triple op' b' us = cc in
    operated_as x op (Sum x) (w ∷ ws) ws op' b' us same record { comes = record { token = w; is = refl; role = e }; opened = sum a }
operated_by x op w ws op' b' us false true a m e h =
    let same : triple op (Join x) ws ≡ triple op' b' us = cc in
    operated_as x op (Join x) (w ∷ ws) ws op' b' us same record { comes = record { token = w; is = refl; role = e }; opened = join a m }
operated_by x op w ws op' b' us false false a m e h = absurd cc

operated_at : (x : Letter) (r : Role) (w : Word) (ws : List Word) (op : Operator) (b : Before) (us : List Word) → w.role ≡ r → operator_by x r ws ≡ Some (op, b, us) → Operated x op b (w ∷ ws) us
operated_at x (role.Letter y) w ws op b us e h = absurd cc
operated_at x (role.Operator op') w ws op b us e h = operated_by x op' w ws op b us (adds x op') (meets x op') refl refl e h
operated_at x (role.Several n) w ws op b us e h = absurd cc
operated_at x (role.Jump n) w ws op b us e h = absurd cc
operated_at x (role.Shift n) w ws op b us e h = absurd cc
operated_at x role.Plain w ws op b us e h = absurd cc

operated : (x : Letter) (ts : List Word) (op : Operator) (b : Before) (us : List Word) → operator_next x ts ≡ Some (op, b, us) → Operated x op b ts us
operated x [] op b us h = absurd cc
operated x (w ∷ ws) op b us h = operated_at x w.role w ws op b us refl h

and_adds : (x : Letter) → adds x And ≡ false
and_adds Zero = refl
and_adds One = refl
and_adds A = refl
and_adds D = refl
and_adds M = refl

or_adds : (x : Letter) → adds x Or ≡ false
or_adds Zero = refl
or_adds One = refl
or_adds A = refl
or_adds D = refl
or_adds M = refl

plus_meets : (x : Letter) → meets x Plus ≡ false
plus_meets Zero = refl
plus_meets One = refl
plus_meets A = refl
plus_meets D = refl
plus_meets M = refl

minus_meets : (x : Letter) → meets x Minus ≡ false
minus_meets Zero = refl
minus_meets One = refl
minus_meets A = refl
minus_meets D = refl
minus_meets M = refl

sum_tree : (x : Letter) (op : Operator) (y : Letter) → adds x op ≡ true → Left (Pair (Leaf (Operator' op)) (Leaf (Letter' y))) ≡ operation_tree op y
sum_tree x Plus y e = refl
sum_tree x Minus y e = refl
sum_tree x And y e = let h = and_adds x in absurd (cc (e, h))
sum_tree x Or y e = let h = or_adds x in absurd (cc (e, h))

join_tree : (x : Letter) (op : Operator) (y : Letter) → meets x op ≡ true → Right (Pair (Leaf (Operator' op)) (Leaf (Letter' y))) ≡ operation_tree op y
join_tree x Plus y e = let h = plus_meets x in absurd (cc (e, h))
join_tree x Minus y e = let h = minus_meets x in absurd (cc (e, h))
join_tree x And y e = refl
join_tree x Or y e = refl

module _ (end : Place) where
  operates_by : (x : Letter) (op : Operator) (b : Before) (w : Word) (us vs : List Word) (y : Letter) → w.role ≡ role.Operator op → Opened x op b → R end (some_letter (suits b)) us (Leaf (Letter' y)) vs → R end (operation x) (w ∷ us) (operation_tree op y) vs
  operates_by x op _ w us vs y e (sum a) p =
      let i = ap (operator_role (adds x)) e ∙ a in
      subst (λ (t : AsmTree). R end (operation x) (w ∷ us) t vs) (ap (λ (s : Said). Left (Pair (Leaf s) (Leaf (Letter' y)))) (ap role_said e) ∙ sum_tree x op y a) (left i (both (worded i refl) p))
  operates_by x op _ w us vs y e (join a m) p =
      let i = ap (operator_role (meets x)) e ∙ m in
      subst (λ (t : AsmTree). R end (operation x) (w ∷ us) t vs) (ap (λ (s : Said). Right (Pair (Leaf s) (Leaf (Letter' y)))) (ap role_said e) ∙ join_tree x op y m) (skip (ap (operator_role (adds x)) e ∙ a) refl (both (worded i refl) p))

  pub operates : (x : Letter) (op : Operator) (b : Before) (ts us vs : List Word) (y : Letter) → operator_next x ts ≡ Some (op, b, us) → R end (some_letter (suits b)) us (Leaf (Letter' y)) vs → R end (operation x) ts (operation_tree op y) vs
  operates x op b ts us vs y e p =
      let o = operated x ts op b us e in
      subst (λ (l : List Word). R end (operation x) l (operation_tree op y) vs) (sym o.comes.is) (operates_by x op b o.comes.token us vs y o.comes.role o.opened p)

  fails_by : (x : Letter) (op : Operator) (b : Before) (w : Word) (us : List Word) (f : Fault) → w.role ≡ role.Operator op → Opened x op b → F end (some_letter (suits b)) us f → F end (operation x) (w ∷ us) f
  fails_by x op _ w us f e (sum a) p = let i = ap (operator_role (adds x)) e ∙ a in in_left i (second (worded i refl) p)
  fails_by x op _ w us f e (join a m) p = let i = ap (operator_role (meets x)) e ∙ m in skip_stops (ap (operator_role (adds x)) e ∙ a) refl (second (worded i refl) p)

  pub fails : (x : Letter) (op : Operator) (b : Before) (ts us : List Word) (f : Fault) → operator_next x ts ≡ Some (op, b, us) → F end (some_letter (suits b)) us f → F end (operation x) ts f
  fails x op b ts us f e p =
      let o = operated x ts op b us e in
      subst (λ (l : List Word). F end (operation x) l f) (sym o.comes.is) (fails_by x op b o.comes.token us f o.comes.role o.opened p)

enters_by : (x : Letter) (op : Operator) (b : Before) (w : Word) (us : List Word) → w.role ≡ role.Operator op → Opened x op b → next (λ t. operator_role (adds x) t.role || operator_role (meets x) t.role) (w ∷ us) ≡ true
enters_by x op _ w us e (sum a) = next_left (λ (t : Word). operator_role (adds x) t.role) (λ (t : Word). operator_role (meets x) t.role) (w ∷ us) (ap (operator_role (adds x)) e ∙ a)
enters_by x op _ w us e (join a m) = next_right (λ (t : Word). operator_role (adds x) t.role) (λ (t : Word). operator_role (meets x) t.role) (w ∷ us) true (ap (operator_role (adds x)) e ∙ a) (ap (operator_role (meets x)) e ∙ m)

-- an operator that may come enters the operation
pub operator_enters : (end : Place) (x : Letter) (op : Operator) (b : Before) (ts us : List Word) → operator_next x ts ≡ Some (op, b, us) → enters (assembly end) (operation x) ts ≡ true
operator_enters end x op b ts us e =
    let o = operated x ts op b us e in
    subst (λ (l : List Word). enters (assembly end) (operation x) l ≡ true) (sym o.comes.is) (enters_by x op b o.comes.token us o.comes.role o.opened)

no_operator_by : (x : Letter) (op : Operator) (ws : List Word) (p q : Bool) → adds x op ≡ p → meets x op ≡ q → cond {A = Option (Operator × Before × List Word)} p (Some (op, Sum x, ws)) (cond {A = Option (Operator × Before × List Word)} q (Some (op, Join x, ws)) None) ≡ None → (adds x op || meets x op) ≡ false
no_operator_by x op ws true q a m h = absurd cc
no_operator_by x op ws false true a m h = absurd cc
no_operator_by x op ws false false a m h = rw (a, m) refl

no_operator_at : (x : Letter) (r : Role) (ws : List Word) → operator_by x r ws ≡ None → (operator_role (adds x) r || operator_role (meets x) r) ≡ false
no_operator_at x (role.Letter y) ws h = refl
no_operator_at x (role.Operator op) ws h = no_operator_by x op ws (adds x op) (meets x op) refl refl h
no_operator_at x (role.Several n) ws h = refl
no_operator_at x (role.Jump n) ws h = refl
no_operator_at x (role.Shift n) ws h = refl
no_operator_at x role.Plain ws h = refl

pub no_operator : (end : Place) (x : Letter) (ts : List Word) → operator_next x ts ≡ None → enters (assembly end) (operation x) ts ≡ false
no_operator end x [] h = refl
no_operator end x (w ∷ ws) h = no_operator_at x w.role ws h

-- Shifts

record Shifted (x : Letter) (side : Bool) (ts us : List Word) : Type 0 where
  comes : Comes (role.Shift side) ts us
  register : is_register x ≡ true

shifted_by : (x : Letter) (r : Bool) (l : Bool) (w : Word) (ws us : List Word) (side : Bool) → is_register x ≡ r → w.role ≡ role.Shift l → cond {A = Option (Bool × List Word)} r (Some (l, ws)) None ≡ Some (side, us) → Shifted x side (w ∷ ws) us
shifted_by x true l w ws us side r e h =
    let p : (l, ws) ≡ (side, us) = cc in
    record {
      comes = record { token = w; is = ap (λ (q : Bool × List Word). w ∷ q.1) p; role = e ∙ ap (λ (q : Bool × List Word). role.Shift q.0) p };
      register = r;
    }
shifted_by x false l w ws us side r e h = absurd cc

shifted_at : (x : Letter) (r : Role) (w : Word) (ws us : List Word) (side : Bool) → w.role ≡ r → shift_by x r ws ≡ Some (side, us) → Shifted x side (w ∷ ws) us
shifted_at x (role.Letter y) w ws us side e h = absurd cc
shifted_at x (role.Operator op) w ws us side e h = absurd cc
shifted_at x (role.Several n) w ws us side e h = absurd cc
shifted_at x (role.Jump n) w ws us side e h = absurd cc
shifted_at x (role.Shift l) w ws us side e h = shifted_by x (is_register x) l w ws us side refl e h
shifted_at x role.Plain w ws us side e h = absurd cc

shifted : (x : Letter) (ts us : List Word) (side : Bool) → shift_next x ts ≡ Some (side, us) → Shifted x side ts us
shifted x [] us side h = absurd cc
shifted x (w ∷ ws) us side h = shifted_at x w.role w ws us side refl h

shift_test : (x : Letter) (t : Word) (side : Bool) → is_register x ≡ true → t.role ≡ role.Shift side → shifts x t ≡ true
shift_test x t side r e = ap (λ (b : Bool). b && shift_role t.role) r ∙ ap shift_role e

pub shift_reads : (end : Place) (x : Letter) (ts us : List Word) (side : Bool) → shift_next x ts ≡ Some (side, us) → R end (shift x) ts (Leaf (Shift' side)) us
shift_reads end x ts us side e =
    let c = shifted x ts us side e in
    let t = c.comes.token in
    let i = shift_test x t side c.register c.comes.role in
    subst (λ (l : List Word). R end (shift x) l (Leaf (Shift' side)) us) (sym c.comes.is)
    (subst (λ (s : Said). R end (shift x) (t ∷ us) (Leaf s) us) (ap role_said c.comes.role) (worded i refl))

no_shift_by : (x : Letter) (r : Bool) (l : Bool) (ws : List Word) → is_register x ≡ r → cond {A = Option (Bool × List Word)} r (Some (l, ws)) None ≡ None → (is_register x && true) ≡ false
no_shift_by x true l ws r h = absurd cc
no_shift_by x false l ws r h = rw r refl

neither : (b : Bool) → (b && false) ≡ false
neither true = refl
neither false = refl

no_shift_at : (x : Letter) (r : Role) (ws : List Word) → shift_by x r ws ≡ None → (is_register x && shift_role r) ≡ false
no_shift_at x (role.Letter y) ws h = neither (is_register x)
no_shift_at x (role.Operator op) ws h = neither (is_register x)
no_shift_at x (role.Several n) ws h = neither (is_register x)
no_shift_at x (role.Jump n) ws h = neither (is_register x)
no_shift_at x (role.Shift l) ws h = no_shift_by x (is_register x) l ws refl h
no_shift_at x role.Plain ws h = neither (is_register x)

no_shift : (x : Letter) (ts : List Word) → shift_next x ts ≡ None → next (shifts x) ts ≡ false
no_shift x [] h = refl
no_shift x (w ∷ ws) h = no_shift_at x w.role ws h

-- What stands after a letter: an operation, a shift, or neither

module _ (end : Place) (x : Letter) where
  pub operation_behind : {ts us : List Word} {t : AsmTree} → R end (operation x) ts t us → R end (behind x) ts (Left t) us
  operation_behind p = left (entered Word (Unit {0}) (Unit {0}) Said (assembly end) p refl) p

  pub operation_behind_stops : {ts : List Word} {f : Fault} → enters (assembly end) (operation x) ts ≡ true → F end (operation x) ts f → F end (behind x) ts f
  operation_behind_stops i p = in_left i p

  pub operation_behind_enters : (ts : List Word) → enters (assembly end) (operation x) ts ≡ true → enters (assembly end) (behind x) ts ≡ true
  operation_behind_enters ts i = next_left (begins (assembly end).opens (operation x)) (shifts x) ts i

  pub shift_behind : (ts us : List Word) (side : Bool) → enters (assembly end) (operation x) ts ≡ false → shift_next x ts ≡ Some (side, us) → R end (behind x) ts (Right (Leaf (Shift' side))) us
  shift_behind ts us side i e = skip i refl (shift_reads end x ts us side e)

  pub none_behind : (ts : List Word) → enters (assembly end) (operation x) ts ≡ false → shift_next x ts ≡ None → enters (assembly end) (behind x) ts ≡ false
  none_behind ts i e = next_right (begins (assembly end).opens (operation x)) (shifts x) ts false i (no_shift x ts e)

-- Destinations

pub record Assigns (x : Letter) (ts us : List Word) : Type 0 where
  pub token : Word
  pub is : ts ≡ token ∷ us
  pub assigns : assigns x token ≡ true

assigns_by : (x : Letter) (w : Word) (ws us : List Word) (b : Bool) → assigns x w ≡ b → cond b (Some ws) None ≡ Some us → Assigns x (w ∷ ws) us
assigns_by x w ws us true e h = let same : ws ≡ us = cc in record { token = w; is = ap (λ (l : List Word). w ∷ l) same; assigns = e }
assigns_by x w ws us false e h = absurd cc

pub assigns_comes : (x : Letter) (ts us : List Word) → assigns_next x ts ≡ Some us → Assigns x ts us
assigns_comes x [] us h = absurd cc
assigns_comes x (w ∷ ws) us h = assigns_by x w ws us (assigns x w) refl h

no_assigns_by : (b : Bool) (ws : List Word) → cond b (Some ws) None ≡ None → b ≡ false
no_assigns_by true ws h = absurd cc
no_assigns_by false ws h = refl

pub no_assigns : (x : Letter) (ts : List Word) → assigns_next x ts ≡ None → next (assigns x) ts ≡ false
no_assigns x [] h = refl
no_assigns x (w ∷ ws) h = no_assigns_by (assigns x w) ws h

-- What may stand after a first letter

module _ (end : Place) (x : Letter) where
  pub to_register : {ts us vs : List Word} {t : AsmTree} → assigns_next x ts ≡ Some us → R end comp us t vs → R end (after_letter x) ts (Present (Left (Pair Skip t))) vs
  to_register {ts = ts} {us = us} {vs = vs} {t = t} e p =
      let c = assigns_comes x ts us e in
      let q : R end (choice (assignment x) (behind x)) (c.token ∷ us) (Left (Pair Skip t)) vs = left c.assigns (both (marked c.assigns) p) in
      subst (λ (l : List Word). R end (after_letter x) l (Present (Left (Pair Skip t))) vs) (sym c.is) (taken (entered Word (Unit {0}) (Unit {0}) Said (assembly end) q refl) q)

  pub to_register_stops : {ts us : List Word} {f : Fault} → assigns_next x ts ≡ Some us → F end comp us f → F end (after_letter x) ts f
  to_register_stops {ts = ts} {us = us} {f = f} e p =
      let c = assigns_comes x ts us e in
      let q : F end (choice (assignment x) (behind x)) (c.token ∷ us) f = in_left c.assigns (second (marked c.assigns) p) in
      subst (λ (l : List Word). F end (after_letter x) l f) (sym c.is) (in_option (next_left (assigns x) (begins (assembly end).opens (behind x)) (c.token ∷ us) c.assigns) q)

  pub continued_after : {ts us : List Word} {t : AsmTree} → assigns_next x ts ≡ None → R end (behind x) ts t us → R end (after_letter x) ts (Present (Right t)) us
  continued_after {ts = ts} {us = us} {t = t} e p =
      let q : R end (choice (assignment x) (behind x)) ts (Right t) us = skip (no_assigns x ts e) refl p in
      taken (entered Word (Unit {0}) (Unit {0}) Said (assembly end) q refl) q

  pub continued_after_stops : {ts : List Word} {f : Fault} → assigns_next x ts ≡ None → enters (assembly end) (behind x) ts ≡ true → F end (behind x) ts f → F end (after_letter x) ts f
  continued_after_stops {ts = ts} {f = f} e i p =
      in_option (next_right (assigns x) (begins (assembly end).opens (behind x)) ts true (no_assigns x ts e) i) (skip_stops (no_assigns x ts e) refl p)

  pub none_after : {ts : List Word} → assigns_next x ts ≡ None → enters (assembly end) (behind x) ts ≡ false → R end (after_letter x) ts Absent ts
  none_after {ts = ts} e i = passed (next_right (assigns x) (begins (assembly end).opens (behind x)) ts false (no_assigns x ts e) i)

-- Several letters of a destination

several_at : (r : Role) (w : Word) (ws : List Word) (n : ℕ) (us : List Word) → w.role ≡ r → several_by r ws ≡ Some (n, us) → Comes (role.Several n) (w ∷ ws) us
several_at (role.Letter y) w ws n us e h = absurd cc
several_at (role.Operator op) w ws n us e h = absurd cc
several_at (role.Several m) w ws n us e h =
    let p : (m, ws) ≡ (n, us) = cc in
    record { token = w; is = ap (λ (q : ℕ × List Word). w ∷ q.1) p; role = e ∙ ap (λ (q : ℕ × List Word). role.Several q.0) p }
several_at (role.Jump m) w ws n us e h = absurd cc
several_at (role.Shift m) w ws n us e h = absurd cc
several_at role.Plain w ws n us e h = absurd cc

pub several_comes : (ts : List Word) (n : ℕ) (us : List Word) → several_next ts ≡ Some (n, us) → Comes (role.Several n) ts us
several_comes [] n us h = absurd cc
several_comes (w ∷ ws) n us h = several_at w.role w ws n us refl h

no_several_by : (r : Role) (ws : List Word) → several_by r ws ≡ None → several_role r ≡ false
no_several_by (role.Letter y) ws h = refl
no_several_by (role.Operator op) ws h = refl
no_several_by (role.Several m) ws h = absurd cc
no_several_by (role.Jump m) ws h = refl
no_several_by (role.Shift m) ws h = refl
no_several_by role.Plain ws h = refl

pub no_several : (ts : List Word) → several_next ts ≡ None → next is_several ts ≡ false
no_several [] h = refl
no_several (w ∷ ws) h = no_several_by w.role ws h

module _ (end : Place) where
  pub several_assigned : {n : ℕ} {ts us vs : List Word} {t : AsmTree} → several_next ts ≡ Some (n, us) → R end (seq (sign 61) comp) us t vs → R end assignment_part ts (Left (Pair (Leaf (Several n)) t)) vs
  several_assigned {n = n} {ts = ts} {us = us} {vs = vs} {t = t} e p =
      let c = several_comes ts n us e in
      let i = ap several_role c.role in
      subst (λ (l : List Word). R end assignment_part l (Left (Pair (Leaf (Several n)) t)) vs) (sym c.is)
      (subst (λ (s : Said). R end assignment_part (c.token ∷ us) (Left (Pair (Leaf s) t)) vs) (ap role_said c.role) (left i (both (worded i refl) p)))

  pub several_stops : {n : ℕ} {ts us : List Word} {f : Fault} → several_next ts ≡ Some (n, us) → F end (seq (sign 61) comp) us f → F end assignment_part ts f
  several_stops {n = n} {ts = ts} {us = us} {f = f} e p =
      let c = several_comes ts n us e in
      let i = ap several_role c.role in
      subst (λ (l : List Word). F end assignment_part l f) (sym c.is) (in_left i (second (worded i refl) p))

  pub bare_assigned : {ts us : List Word} {t : AsmTree} → several_next ts ≡ None → R end (by_letter after_letter unary) ts t us → R end assignment_part ts (Right t) us
  bare_assigned {ts = ts} e p = skip (no_several ts e) refl p

  pub bare_stops : {ts : List Word} {f : Fault} → several_next ts ≡ None → F end (by_letter after_letter unary) ts f → F end assignment_part ts f
  bare_stops {ts = ts} e p = skip_stops (no_several ts e) refl p
