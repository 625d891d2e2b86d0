-- The point of a routine's frame with nothing done of its text: the next command of the virtual machine is one of its first statement.
use Rattle.std.proofs.Common.{◌≡◌, ℕ, Bool, true, false, nat_eq, List, [], ◌∷◌, ◌++◌, Some, length, refl, sym, ap, ◌∙◌, subst, slice_get, ◌≤◌, arith}
use Rattle.std.specs.Prelude.{if◌then◌else◌}
use Rattle.vm_tree.specs.declared.command.Operation.TheVariants as operation
use Rattle.vm_tree.specs.declared.command.Segment.TheVariants as segment
use Rattle.vm_link.specs.declared.linked.Step.TheVariants as command
use Rattle.vm_link.specs.declared.linked.Code.{Code}
use Rattle.vm_link.specs.declared.linked.Linked.{Linked}
use Rattle.hack_isa.specs.Machine.{Machine}
use Rattle.image_map.specs.Map as addresses
use Rattle.vm_link.specs.Sound.{IsSound}
use Rattle.vm_link.specs.Uniform.{IsUniform}
use Rattle.vm_machine.specs.State.{Frame as VmFrame, State as VmState}
use Rattle.vm_machine.specs.Level.{subroutine_of}
use Rattle.vm_templates.specs.Templates.{size}
use Rattle.vm_translator.specs.Image.{image_of, points_of}
use Rattle.vm_translator.specs.Mapping.{location}
use Rattle.vm_translator.specs.Related.{StandsFor}
use Rattle.vm_translator.specs.Shapes.{shape_of, step_size}
use Rattle.vm_translator.proofs.Simulating as placed
use Rattle.vm_translator.proofs.Sums.{size_some, size_to}
use Rattle.vm_machine.specs.Step.{code_in, code_of}
use Rattle.jack_meaning.specs.Text.{Expression, Literal, Value, Name, This, Field, Unary, Binary, Load, Call, Open, Expressions, NoMore, More, Statement, Let, LetField, LetThis, Store, Do, If, While, Return, Text, End, Next, number_of, Kind, Function, Method, Constructor, Program, Subroutine}
use Rattle.jack_meaning.specs.Meaning.{Frame, subroutine_at, text_point}
use Rattle.jack_compiler.specs.Templates.{Numbers, quiet, commit, push_variable, expression_code, arguments_code, statement_code, first_number, subroutine_code}
use Rattle.jack_compiler.specs.Fits.{Scope, IsWhole, AreWhole, IsFresh, IsFreshText, IsBody, IsClosed, without_object, scope_of}
use Rattle.jack_compiler.specs.Places.{HasAt, Jumps, here, jump, Reads, base, index, element, Storing, BegunText, Making}
use Rattle.jack_compiler.specs.Match.{IsCodeOf, MatchFrames, TopMatch, entering, between, begun, making, Entering}

-- these commands begin with one of statement n
pub record Begins (n : ℕ) (cs : List Code) : Type 0 where
  pub first : Code
  pub rest : List Code
  pub whole : cs ≡ first ∷ rest
  pub number : first.statement ≡ n

more : (n : ℕ) (cs ds : List Code) → Begins n cs → Begins n (cs ++ ds)
more n cs ds b = record { first = b.first; rest = b.rest ++ ds; whole = ap (λ l. l ++ ds) b.whole; number = b.number }

literal_with : (n w : ℕ) (b : Bool) → Begins n (if b then quiet n (command.Push segment.Constant 0) ∷ commit n (command.Operate operation.Not) ∷ [] else commit n (command.Push segment.Constant w) ∷ [])
literal_with n w true = record { first = quiet n (command.Push segment.Constant 0); rest = commit n (command.Operate operation.Not) ∷ []; whole = refl; number = refl }
literal_with n w false = record { first = commit n (command.Push segment.Constant w); rest = []; whole = refl; number = refl }

module _ (subs : List Subroutine) (numbers : Numbers) (n : ℕ) where
  mutual
    whole_begins : (scope : Scope) (e : Expression) → IsWhole subs numbers scope e → Begins n (expression_code numbers n e)
    whole_begins scope (Value w) h = absurd h
    whole_begins scope Open h = absurd h
    whole_begins scope (Literal w) h = literal_with n w (nat_eq w 65535)
    whole_begins scope (Name x) h = record { first = commit n (push_variable numbers x); rest = []; whole = refl; number = refl }
    whole_begins scope This h = record { first = commit n (command.Push segment.Pointer 0); rest = []; whole = refl; number = refl }
    whole_begins scope (Field k) h = record { first = commit n (command.Push segment.This k); rest = []; whole = refl; number = refl }
    whole_begins scope (Unary o a) h = more n (expression_code numbers n a) _ (whole_begins scope a h)
    whole_begins scope (Binary o a b) h = more n (expression_code numbers n a) _ (whole_begins scope a h.0)
    whole_begins scope (Load a i) h = more n (expression_code numbers n a) _ (whole_begins scope a h.0)
    whole_begins scope (Call g es) h = call_begins scope g es h.1

    call_begins : (scope : Scope) (g : ℕ) (es : Expressions) → AreWhole subs numbers scope es → Begins n (expression_code numbers n (Call g es))
    call_begins scope g NoMore h = record { first = commit n (command.Call (numbers.function g) 0); rest = []; whole = refl; number = refl }
    call_begins scope g (More e es) h = more n (arguments_code numbers n (More e es)) _ (more n (expression_code numbers n e) _ (whole_begins scope e h.0))

module _ (subs : List Subroutine) (numbers : Numbers) (scope : Scope) where
  statement_begins : (next q : ℕ) (s : Statement) → IsFresh subs numbers scope s → Begins (number_of s) (statement_code numbers next q s)
  statement_begins next q (Let n x e) h = more n (expression_code numbers n e) _ (whole_begins subs numbers n scope e h.1)
  statement_begins next q (LetField n k e) h = more n (expression_code numbers n e) _ (whole_begins subs numbers n scope e h.1)
  statement_begins next q (LetThis n e) h = absurd h
  statement_begins next q (Store n a i e) h = more n (expression_code numbers n a) _ (whole_begins subs numbers n scope a h.0)
  statement_begins next q (Do n e) h = more n (expression_code numbers n e) _ (whole_begins subs numbers n scope e h)
  statement_begins next q (If n o c a b) h = more n (expression_code numbers n c) _ (whole_begins subs numbers n scope c h.0)
  statement_begins next q (While n c s) h = more n (expression_code numbers n c) _ (whole_begins subs numbers n scope c h.0)
  statement_begins next q (Return n e) h = more n (expression_code numbers n e) _ (whole_begins subs numbers n scope e h)

-- the command at a place is one of statement n
pub record NextIs (code : List Code) (p n : ℕ) : Type 0 where
  pub found : Code
  pub at : slice_get code p ≡ Some found
  pub number : found.statement ≡ n

first_at : (code : List Code) (p n : ℕ) (cs : List Code) → Begins n cs → HasAt code p cs → NextIs code p n
first_at code p n cs b has = let h = subst (HasAt code p) b.whole has in record { found = b.first; at = h.0; number = b.number }

jumps_next : (code : List Code) (n p q k : ℕ) → Jumps code n p q k → NextIs code q n → NextIs code p n
jumps_next code n p q k (here _) x = x
jumps_next code n p q k (jump _ t _ k' e j) x = record { found = quiet n (command.Goto t); at = e; number = refl }

module _ (subs : List Subroutine) (numbers : Numbers) (scope : Scope) (depth : ℕ) (code : List Code) where
  reads_next : (t : Text) (p : ℕ) → IsClosed t → Reads subs numbers scope depth code 0 t p → NextIs code p (text_point t)
  reads_next End p closed r = absurd closed
  reads_next (Next s rest) p closed r =
      jumps_next code (number_of s) p r.0 r.1 r.2 (first_at code r.0 (number_of s) (statement_code numbers (first_number 0 rest) r.0 s) (statement_begins subs numbers scope (first_number 0 rest) r.0 s r.4) r.3)

  -- the expression that comes first, and what follows it
  expression_next : (scope' : Scope) (n p : ℕ) (e : Expression) (after : List Code) → IsWhole subs numbers scope' e → HasAt code p (expression_code numbers n e ++ after) → NextIs code p n
  expression_next scope' n p e after whole has = first_at code p n (expression_code numbers n e ++ after) (more n (expression_code numbers n e) after (whole_begins subs numbers n scope' e whole)) has

  storing_next : (n : ℕ) (rest : Text) (p : ℕ) (vs : List ℕ) (a i e : Expression) → IsWhole subs numbers scope a → Storing subs numbers scope depth code n rest p vs a i e → NextIs code p n
  storing_next n rest p vs a i e whole (base _ _ _ part wi we reads) = expression_next scope n p a _ whole part.has
  storing_next n rest p vs a i e whole (index x _ _ part we reads) = absurd whole
  storing_next n rest p vs a i e whole (element x y _ part reads) = absurd whole

  begun_next : (t : Text) (p : ℕ) (vs : List ℕ) → IsFreshText subs numbers scope t → BegunText subs numbers scope depth code t p vs → NextIs code p (text_point t)
  begun_next End p vs h b = absurd b
  begun_next (Next (Let n x e) rest) p vs h b = expression_next scope n p e _ h.0.1 b.1.part.has
  begun_next (Next (LetField n k e) rest) p vs h b = expression_next scope n p e _ h.0.1 b.1.part.has
  begun_next (Next (LetThis n e) rest) p vs h b = absurd b
  begun_next (Next (Store n a i e) rest) p vs h b = storing_next n rest p vs a i e h.0.0 b
  begun_next (Next (Do n e) rest) p vs h b = expression_next scope n p e _ h.0 b.part.has
  begun_next (Next (If n o c a1 a2) rest) p vs h b = expression_next scope n p c _ h.0.0 b.part.has
  begun_next (Next (While n c s) rest) p vs h b = absurd b
  begun_next (Next (Return n e) rest) p vs h b = expression_next scope n p e _ h.0 b.has

  body_begun : (kind : Kind) (t : Text) (p : ℕ) (vs : List ℕ) → IsBody subs numbers scope kind t → BegunText subs numbers scope depth code t p vs → NextIs code p (text_point t)
  body_begun Function t p vs h b = begun_next t p vs h b
  body_begun Method t p vs h b = begun_next t p vs h b
  body_begun Constructor End p vs h b = absurd h
  body_begun Constructor (Next (LetThis n e) rest) p vs h b = absurd b
  body_begun Constructor (Next (Let n x e) rest) p vs h b = absurd h
  body_begun Constructor (Next (LetField n k e) rest) p vs h b = absurd h
  body_begun Constructor (Next (Store n a i e) rest) p vs h b = absurd h
  body_begun Constructor (Next (Do n e) rest) p vs h b = absurd h
  body_begun Constructor (Next (If n o c a1 a2) rest) p vs h b = absurd h
  body_begun Constructor (Next (While n c s) rest) p vs h b = absurd h
  body_begun Constructor (Next (Return n e) rest) p vs h b = absurd h

  making_next : (kind : Kind) (t : Text) (p : ℕ) (vs : List ℕ) → IsBody subs numbers scope kind t → Making subs numbers scope depth code t p vs → NextIs code p (text_point t)
  making_next Constructor (Next (LetThis n e) rest) p vs h b = expression_next (without_object scope) n p e _ h.0 b.part.has
  making_next Function (Next (LetThis n e) rest) p vs h b = absurd h.0
  making_next Method (Next (LetThis n e) rest) p vs h b = absurd h.0
  making_next kind End p vs h b = absurd b
  making_next kind (Next (Let n x e) rest) p vs h b = absurd b
  making_next kind (Next (LetField n k e) rest) p vs h b = absurd b
  making_next kind (Next (Store n a i e) rest) p vs h b = absurd b
  making_next kind (Next (Do n e) rest) p vs h b = absurd b
  making_next kind (Next (If n o c a1 a2) rest) p vs h b = absurd b
  making_next kind (Next (While n c s) rest) p vs h b = absurd b
  making_next kind (Next (Return n e) rest) p vs h b = absurd b

module _ (program : Program) (numbers : Numbers) (linked : Linked) (depth : ℕ) (agree : IsCodeOf program numbers linked) (f : Frame) (vf : VmFrame) where
  abbrev sub : Subroutine
  sub = subroutine_at program.subroutines f.subroutine

  first_number_is : (t : Text) → IsClosed t → first_number 0 t ≡ text_point t
  first_number_is End h = absurd h
  first_number_is (Next s rest) h = refl

  entering_next : IsClosed sub.body → Entering program numbers linked depth f vf → NextIs (code_in linked vf.function) vf.place (text_point f.text)
  entering_next closed e =
      let fa = agree.function f.subroutine e.kept in
      let code_is : code_in linked vf.function ≡ subroutine_code numbers sub = ap (code_in linked) e.function ∙ (ap code_of fa.1 ∙ fa.3) in
      record {
        found = quiet (first_number 0 sub.body) (command.Function sub.locals);
        at = ap (slice_get (code_in linked vf.function)) e.place ∙ ap (λ (cs : List Code). slice_get cs 0) code_is;
        number = first_number_is sub.body closed ∙ sym (ap text_point e.text);
      }

  -- of a frame with nothing done
  pub top_next : IsClosed sub.body → IsBody program.subroutines numbers (scope_of sub) sub.kind sub.body → f.text ≡ sub.body → TopMatch program numbers linked depth f vf → NextIs (code_in linked vf.function) vf.place (text_point f.text)
  top_next closed body fresh (entering e) = entering_next closed e
  top_next closed body fresh (between same closed' none r) = reads_next program.subroutines numbers (scope_of sub) depth (code_in linked vf.function) f.text vf.place closed' r
  top_next closed body fresh (begun same closed' later b) =
      body_begun program.subroutines numbers (scope_of sub) depth (code_in linked vf.function) sub.kind f.text vf.place vf.values (subst (IsBody program.subroutines numbers (scope_of sub) sub.kind) (sym fresh) body) b
  top_next closed body fresh (making same closed' unmade b) =
      making_next program.subroutines numbers (scope_of sub) depth (code_in linked vf.function) sub.kind f.text vf.place vf.values (subst (IsBody program.subroutines numbers (scope_of sub) sub.kind) (sym fresh) body) b

  -- and whose subroutine it is
  pub top_function : TopMatch program numbers linked depth f vf → (numbers.keeps f.subroutine ≡ true) × (vf.function ≡ Some (numbers.function f.subroutine))
  top_function (entering e) = (e.kept, e.function)
  top_function (between same closed' none r) = (same.kept, same.function)
  top_function (begun same closed' later b) = (same.kept, same.function)
  top_function (making same closed' unmade b) = (same.kept, same.function)

-- the frames of a matching state
pub record Tops (program : Program) (numbers : Numbers) (linked : Linked) (depth : ℕ) (f : Frame) (vfs : List VmFrame) : Type 0 where
  pub frame : VmFrame
  pub others : List VmFrame
  pub is : vfs ≡ frame ∷ others
  pub top : TopMatch program numbers linked depth f frame

pub tops : (program : Program) (numbers : Numbers) (linked : Linked) (depth : ℕ) (f g : Frame) (below : List Frame) (vfs : List VmFrame) → MatchFrames program numbers linked depth (f ∷ g ∷ below) vfs → Tops program numbers linked depth f vfs
tops program numbers linked depth f g below [] m = absurd m
tops program numbers linked depth f g below (vf ∷ []) m = absurd m
tops program numbers linked depth f g below (vf ∷ vg ∷ vbs) m = record { frame = vf; others = vg ∷ vbs; is = refl; top = m.0 }

-- where the computer stands for a state of the virtual machine, the point is that of the next command
pub machine_point : (l : Linked) → IsSound l → IsUniform l → l.bare ≡ false → length (image_of l) ≤ 32768 → (v : VmState) (s : Machine) → StandsFor (location l) l v s → (f : VmFrame) (below : List VmFrame) → v.frames ≡ f ∷ below
    → (c : Code) → slice_get (code_in l f.function) f.place ≡ Some c → addresses.point_in (points_of l) s.pc ≡ Some (record { sub = subroutine_of l f.function; number = c.statement })
machine_point l sound uniform whole few v s h f below e c g =
    let p = placed.here l sound uniform whole few v s h f below e c g in
    let some = size_some c.step in
    let n : size (shape_of p.to c.step) ≡ step_size c.step = size_to p.to c.step in
    p.points s.pc (omega arith) (omega arith)
