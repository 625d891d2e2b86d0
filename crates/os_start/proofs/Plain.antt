-- The meaning of a program, in which a state counts as fit only while the routine that runs is a plain one: a function with few locals, whose
-- statements are not nested deep. The virtual machine makes each step of it within a bound that is the same for every program.
use Rattle.std.proofs.Common.{◌≡◌, ℕ, ◌+◌, ◌≤◌, Bool, true, false, ◌&&◌, nat_le, List, [], ◌∷◌, refl, arith}
use Rattle.std.proofs.lemmas.Bool.Decides.{nat_tests}
use Rattle.simulation.specs.System.{System, IsMeaning}
use Rattle.jack_meaning.specs.Text.{Kind, Constructor, Function, Method, Subroutine, Program}
use Rattle.jack_meaning.specs.Meaning.{Frame, State, subroutine_at}
use Rattle.jack_meaning.specs.StackWords.{stack_words}
use Rattle.jack_meaning.specs.Gap.{nest_in}
use Rattle.jack_meaning.specs.Level.{meaning_of}
use Rattle.jack_meaning.proofs.Deaf.{law as meaning}

abbrev is_function : Kind → Bool
is_function Function = true
is_function Method = false
is_function Constructor = false

-- a function with at most three locals, whose statements are nested at most four deep
abbrev pub is_plain : Subroutine → Bool
is_plain sub = is_function sub.kind && (nat_le sub.locals 3 && nat_le (nest_in sub.body) 4)

-- the top frame's routine is plain, or it is `start`
abbrev pub runs_plain : List Subroutine → List Frame → Bool
runs_plain subs [] = true
runs_plain subs (f ∷ []) = true
runs_plain subs (f ∷ g ∷ below) = is_plain (subroutine_at subs f.subroutine)

abbrev pub plain_meaning : List Subroutine → System State
plain_meaning subs = record (meaning_of subs) { fits = λ s. nat_le (stack_words s.frames + 8) 1792 && runs_plain subs s.frames }

pub both_true : (a b : Bool) → a ≡ true → b ≡ true → (a && b) ≡ true
both_true true b e f = f
both_true false b e f = absurd (cc e)

pub first_true : (a b : Bool) → (a && b) ≡ true → a ≡ true
first_true true b e = refl
first_true false b e = absurd (cc e)

pub second_true : (a b : Bool) → (a && b) ≡ true → b ≡ true
second_true true b e = e
second_true false b e = absurd (cc e)

function_is : (kind : Kind) → is_function kind ≡ true → kind ≡ Function
function_is Function e = refl
function_is Method e = absurd (cc e)
function_is Constructor e = absurd (cc e)

at_most : (a b : ℕ) → nat_le a b ≡ true → a ≤ b
at_most a b h = grind (arith, nat_tests)

pub record IsPlain (sub : Subroutine) : Type 0 where
  pub kind : sub.kind ≡ Function
  pub locals : sub.locals ≤ 3
  pub nested : nest_in sub.body ≤ 4

pub plain_is : (sub : Subroutine) → is_plain sub ≡ true → IsPlain sub
plain_is sub h =
    let more = second_true (is_function sub.kind) (nat_le sub.locals 3 && nat_le (nest_in sub.body) 4) h in
    record {
      kind = function_is sub.kind (first_true (is_function sub.kind) (nat_le sub.locals 3 && nat_le (nest_in sub.body) 4) h);
      locals = at_most sub.locals 3 (first_true (nat_le sub.locals 3) (nat_le (nest_in sub.body) 4) more);
      nested = at_most (nest_in sub.body) 4 (second_true (nat_le sub.locals 3) (nat_le (nest_in sub.body) 4) more);
    }

pub laws : (program : Program) → IsMeaning (plain_meaning program.subroutines)
laws program = let l = meaning.level program in record { commits = l.commits; pointed = l.pointed; deaf = l.deaf; stops = l.stops }
