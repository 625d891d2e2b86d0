-- The computer made of gates on its way to a statement.
use Rattle.std.proofs.Common.{◌≡◌, ◌<◌, ◌≤◌, ◌+◌, ◌++◌, ◌∷◌, ◌&&◌, ◌==◌, [], ℕ, zero, suc, Bool, true, false, nat_lt, List, Option, Some, None, refl, sym, ap, ◌∙◌, subst, arith, add-one}
use Rattle.std.proofs.lemmas.Bool.{ltb-true}
use Rattle.std.proofs.lemmas.Bool.Decides.{nat_tests}
use Rattle.std.proofs.lemmas.Slice.Eq.{bytes_eq-Decides}
use Rattle.std.specs.Prelude.{◌↔◌, IsSome, IsTrue, if◌then◌else◌, slice_get}
use Rattle.outer_world.specs.declared.point.Point.{Point}
use Rattle.machine_io.specs.History.{Turn, moves_from, turn}
use Rattle.machine_io.specs.declared.machine.Moved.TheVariants.{Acted}
use Rattle.word16.specs.Memory.{keyboard}
use Rattle.simulation.specs.Trace.{steps}
use Rattle.image_map.specs.declared.map.Image.{Image}
use Rattle.hdl_tree.specs.Behaviour.{Histories}
use Rattle.hack_cpu.specs.Computer.{pc_at, word_at}
use Rattle.gate_computer.specs.Followed.{GateMachine, HasFollowed, image_in, word_in}
use Rattle.jack_debug.specs.Walk.{name_of, point_in, sub_at}
use Rattle.jack_debug.specs.declared.places.PlacedRange.{PlacedRange}
use Rattle.jack_debug.specs.declared.places.Places.{Places}
use Rattle.nand_cli.specs.Commands.Debug.{HasStatement, IsAt, IsBetweenSteps, IsStatement}
use Rattle.nand_cli.specs.Commands.Gates.{InEach, gates_trace}
use Rattle.nand_cli.specs.Inner.Debugging.{AnswersAt, HasComeTo, HasGone, is_among, is_at, is_between, is_statement, is_statement_at}
use Rattle.nand_cli.proofs.OnGates.{shows_cycle}

-- ---- tests

pub and_left : (a b : Bool) → a && b ≡ true → a ≡ true
and_left true b h = refl
and_left false b h = let no : ⊥ = cc in absurd no

pub and_right : (a b : Bool) → a && b ≡ true → b ≡ true
and_right true b h = h
and_right false b h = let no : ⊥ = cc in absurd no

both_true : (a b : Bool) → a ≡ true → b ≡ true → a && b ≡ true
both_true a b h k = ap (λ z. z && b) h ∙ k

-- ---- one cycle

moves_more : (code : ℕ → ℕ) (c m : ℕ) → moves_from code c (suc m) ≡ moves_from code c m ++ turn (code (c + m)) Acted ∷ []
moves_more code c zero = let e : c ≡ c + 0 = omega arith in ap (λ n. turn (code n) Acted ∷ []) e
moves_more code c (suc m) =
    let e : suc c + m ≡ c + suc m = omega arith in
    ap (λ ts. turn (code c) Acted ∷ ts) (moves_more code (suc c) m ∙ ap (λ n. moves_from code (suc c) m ++ turn (code n) Acted ∷ []) e)

pub gone_on : (image : Image) (code : ℕ → ℕ) (n key at : ℕ) (old new : GateMachine) → HasGone image code n old → at ≡ old.moves → key ≡ code at
    → image_in new ≡ image_in old → new.moves ≡ old.moves + 1 → ((turns : List Turn) → HasFollowed old turns → HasFollowed new (turns ++ turn key Acted ∷ [])) → HasGone image code (n + 1) new
gone_on image code n key at old new gone here held same moves stands =
    let made = gone.moves in
    let pressed : key ≡ code (0 + n) = held ∙ ap code (here ∙ made) ∙ ap code (let e : n ≡ 0 + n = omega arith in e) in
    let all : moves_from code 0 n ++ turn key Acted ∷ [] ≡ moves_from code 0 (n + 1) =
    ap (λ k. moves_from code 0 n ++ turn k Acted ∷ []) pressed ∙ sym (moves_more code 0 n) ∙ ap (moves_from code 0) (sym (add-one n)) in
    record {
      same = same ∙ gone.same;
      moves = moves ∙ ap (λ k. k + 1) made;
      followed = subst (HasFollowed new) all (stands (moves_from code 0 n) gone.followed);
    }

-- ---- what it shows

-- it shows the address, the steps and the words of a behaviour in cycle n
pub record IsSeen (image : Image) (code : ℕ → ℕ) (n : ℕ) (g : GateMachine) (wires : List ℕ → Histories) : Type 0 where
  pub at : g.tally.at ≡ pc_at wires n
  pub counted : g.tally.steps ≡ steps (gates_trace image code wires) n
  pub words : (a : ℕ) → a < keyboard → word_in g a ≡ word_at wires n a

pub seen_of : (image : Image) (code : ℕ → ℕ) (n : ℕ) (g : GateMachine) → HasGone image code n g → InEach image.words code n (IsSeen image code n g)
seen_of image code n g gone =
    let P : Image → Type 0 = λ q. InEach q.words code n (IsSeen q code n g) in
    subst P gone.same (λ m wires near is.
    let s = shows_cycle g code n gone.followed m wires near is in
    record { at = s.at; counted = s.counted; words = s.words })

-- whether a step has just ended, in each behaviour
abbrev pub HasEnded : Image → (ℕ → ℕ) → ℕ → Bool → Type 0
HasEnded image code n b = InEach image.words code n (λ wires. is_between (gates_trace image code wires) n ≡ b)

pub begun : (image : Image) (code : ℕ → ℕ) → HasEnded image code 0 true
begun image code = λ m wires near is. refl

rose : (c : Bool) (k : ℕ) → c ≡ nat_lt k (if c then suc k else k)
rose true k = grind (arith, nat_tests)
rose false k = grind (arith, nat_tests)

pub ended : (image : Image) (code : ℕ → ℕ) (n : ℕ) (old new : GateMachine) (b : Bool) → HasGone image code n old → HasGone image code (n + 1) new → b ≡ nat_lt old.tally.steps new.tally.steps
    → HasEnded image code (n + 1) b
ended image code n old new b was now e =
    let P : ℕ → Type 0 = λ k. HasGone image code k new → HasEnded image code k b in
    subst P (sym (add-one n)) (λ made. λ m wires near is.
    let before = seen_of image code n old was m wires (let l : n < m = omega (arith, near) in l) is in
    let after = seen_of image code (suc n) new made m wires near is in
    let t = gates_trace image code wires in
    rose (t.commits n) (steps t n) ∙ sym (e ∙ ap (λ k. nat_lt k new.tally.steps) before.counted ∙ ap (nat_lt (steps t n)) after.counted)) now

-- what the code asks of the machine is what is asked of each behaviour
pub answers : (places : Places) (sub : List ℕ) (number : ℕ) (image : Image) (code : ℕ → ℕ) (n : ℕ) (g : GateMachine) (b r : Bool) → HasGone image code n g → HasEnded image code n b
    → r ≡ b && is_statement_at places sub number (point_in places.ranges g.tally.at) → AnswersAt places sub number image code n r
answers places sub number image code n g b r gone between e =
    λ m wires near is.
    let s = seen_of image code n g gone m wires near is in
    let Q : ℕ → Bool = λ a. is_statement_at places sub number (point_in places.ranges a) in
    ap (λ z. z && Q (pc_at wires n)) (between m wires near is) ∙ sym (e ∙ ap (λ a. b && Q a) s.at)

-- ---- the way

-- no cycle so far was one to stop at
abbrev pub NoneBefore : Places → List ℕ → ℕ → Image → (ℕ → ℕ) → ℕ → Type 0
NoneBefore places sub number image code n = (c : ℕ) → c < n → AnswersAt places sub number image code c false

pub none_more : (places : Places) (sub : List ℕ) (number : ℕ) (image : Image) (code : ℕ → ℕ) (n : ℕ) → NoneBefore places sub number image code n → AnswersAt places sub number image code n false
    → NoneBefore places sub number image code (n + 1)
none_more places sub number image code n none here c lt = by_test (nat_lt c n) refl
  where
    by_test : (b : Bool) → nat_lt c n ≡ b → AnswersAt places sub number image code c false
    by_test true t = none c (ltb-true c n t)
    by_test false t = let same : n ≡ c = grind (arith, nat_tests, lt, t) in subst (λ k. AnswersAt places sub number image code k false) same here

pub come_to : (places : Places) (sub : List ℕ) (number : ℕ) (image : Image) (code : ℕ → ℕ) (cycles n : ℕ) (g : GateMachine) (b r : Bool) → n ≤ cycles → HasGone image code n g → HasEnded image code n b
    → NoneBefore places sub number image code n → r ≡ b && is_statement_at places sub number (point_in places.ranges g.tally.at) → (r ≡ false → n ≡ cycles)
    → HasComeTo places sub number image code cycles r g
come_to places sub number image code cycles n g b r few gone between none e all = record {
  n = n;
  few = few;
  gone = gone;
  not_before = none;
  last = answers places sub number image code n g b r gone between e;
  here = λ found. and_right b _ (sym e ∙ found);
  all = all;
}

-- ---- the statement

pub is_its : (places : Places) (sub : List ℕ) (number : ℕ) (p : Point) → is_statement places sub number p ≡ true → IsStatement places sub number p
is_its places sub number p h =
    let first : p.number == number ≡ true = and_left _ _ h in
    ((bytes_eq-Decides (name_of (sub_at places p.sub) p.sub) sub).0 (and_right _ _ h), grind (arith, nat_tests, first))

pub its_is : (places : Places) (sub : List ℕ) (number : ℕ) (p : Point) → IsStatement places sub number p → is_statement places sub number p ≡ true
its_is places sub number p (named, numbered) =
    both_true _ _ (grind (arith, nat_tests, numbered)) ((bytes_eq-Decides (name_of (sub_at places p.sub) p.sub) sub).1 named)

-- the statement among ranges
abbrev pub IsIn : Places → List ℕ → ℕ → List PlacedRange → Type 0
IsIn places sub number rs = (i : ℕ) × (r : PlacedRange) × (slice_get rs i ≡ Some r) × IsStatement places sub number r.point

in_front : (places : Places) (sub : List ℕ) (number : ℕ) (q : PlacedRange) (rs : List PlacedRange) → (if is_statement places sub number q.point then true else is_among places sub number rs) ≡ true
    → (is_among places sub number rs ≡ true → IsIn places sub number rs) → (b : Bool) → is_statement places sub number q.point ≡ b → IsIn places sub number (q ∷ rs)
in_front places sub number q rs h behind true t = (0, q, refl, is_its places sub number q.point t)
in_front places sub number q rs h behind false t =
    let (i, r, e, is) = behind (ap (λ (b : Bool). if b then true else is_among places sub number rs) (sym t) ∙ h) in (suc i, r, e, is)

pub among_is : (places : Places) (sub : List ℕ) (number : ℕ) (rs : List PlacedRange) → is_among places sub number rs ≡ true → IsIn places sub number rs
among_is places sub number [] h = let no : ⊥ = cc in absurd no
among_is places sub number (q ∷ rs) h = in_front places sub number q rs h (among_is places sub number rs) (is_statement places sub number q.point) refl

first_among : (places : Places) (sub : List ℕ) (number : ℕ) (q : PlacedRange) (rs : List PlacedRange) → is_statement places sub number q.point ≡ true → is_among places sub number (q ∷ rs) ≡ true
first_among places sub number q rs h = ap (λ (b : Bool). if b then true else is_among places sub number rs) h

more_among : (places : Places) (sub : List ℕ) (number : ℕ) (q : PlacedRange) (rs : List PlacedRange) → is_among places sub number rs ≡ true → (b : Bool) → is_statement places sub number q.point ≡ b
    → is_among places sub number (q ∷ rs) ≡ true
more_among places sub number q rs h true t = first_among places sub number q rs t
more_among places sub number q rs h false t = ap (λ (b : Bool). if b then true else is_among places sub number rs) t ∙ h

pub is_among_so : (places : Places) (sub : List ℕ) (number : ℕ) (rs : List PlacedRange) (i : ℕ) (r : PlacedRange) → slice_get rs i ≡ Some r → IsStatement places sub number r.point → is_among places sub number rs ≡ true
is_among_so places sub number [] i r e is = let no : ⊥ = cc in absurd no
is_among_so places sub number (q ∷ rs) zero r e is =
    let same : r ≡ q = cc in
    first_among places sub number q rs (its_is places sub number q.point (subst (λ (x : PlacedRange). IsStatement places sub number x.point) same is))
is_among_so places sub number (q ∷ rs) (suc i) r e is =
    more_among places sub number q rs (is_among_so places sub number rs i r e is) (is_statement places sub number q.point) refl

pub statement_told : (places : Places) (sub : List ℕ) (number : ℕ) (b : Bool) → b ≡ is_among places sub number places.ranges → IsTrue b ↔ HasStatement places sub number
statement_told places sub number b e = (
  λ t. among_is places sub number places.ranges (sym e ∙ t),
  λ (i, r, at, is). e ∙ is_among_so places sub number places.ranges i r at is,
)

pub some_there : (places : Places) (sub : List ℕ) (number : ℕ) (o : Option Point) → is_statement_at places sub number o ≡ true → IsSome o
some_there places sub number (Some p) h = refl
some_there places sub number None h = let no : ⊥ = cc in absurd no

module _ (places : Places) (sub : List ℕ) (number : ℕ) (image : Image) (code : ℕ → ℕ) (wires : List ℕ → Histories) where
  between_is : (n : ℕ) → is_between (gates_trace image code wires) n ≡ true → IsBetweenSteps (gates_trace image code wires) n
  between_is zero h = tt
  between_is (suc c) h = h

  is_between_so : (n : ℕ) → IsBetweenSteps (gates_trace image code wires) n → is_between (gates_trace image code wires) n ≡ true
  is_between_so zero h = refl
  is_between_so (suc c) h = h

  at_point : (n : ℕ) (o : Option Point) → point_in places.ranges (pc_at wires n) ≡ o → is_between (gates_trace image code wires) n ≡ true → is_statement_at places sub number o ≡ true
      → IsAt places sub number image code wires n
  at_point n (Some p) e between h = record { point = p; here = e; is_statement = is_its places sub number p h; between = between_is n between }
  at_point n None e between h = let no : ⊥ = cc in absurd no

  pub at_is : (n : ℕ) → is_at places sub number image code wires n ≡ true → IsAt places sub number image code wires n
  at_is n h = at_point n _ refl (and_left _ _ h) (and_right _ _ h)

  pub is_at_so : (n : ℕ) → IsAt places sub number image code wires n → is_at places sub number image code wires n ≡ true
  is_at_so n h =
      both_true _ _ (is_between_so n h.between)
      (ap (is_statement_at places sub number) h.here ∙ its_is places sub number h.point h.is_statement)
