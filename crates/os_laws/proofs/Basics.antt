-- Small lemmas that several proofs use.
use Rattle.std.proofs.Common.{◌≡◌, ℕ, List, Option, Some, None, ap}
use Rattle.std.specs.Prelude.{replicate}
use Rattle.jack_meaning.specs.Text.{Subroutine}
use Rattle.jack_meaning.specs.Meaning.{Frame, subroutine_at, new_frame, this_of}

pub none-some : {A : Type 0} (a : A) → ◌≡◌ {A = Option A} None (Some a) → ⊥
none-some a e = cc e

pub some_is : {A : Type 0} (a b : A) → Some a ≡ Some b → a ≡ b
some_is a b e = cc e

-- the frame of a call of this subroutine
abbrev pub frame_with : ℕ → Subroutine → List ℕ → Frame
frame_with g sub xs = record { subroutine = g; arguments = xs; locals = replicate sub.locals 0; this = this_of sub.kind xs; text = sub.body }

pub enters : (subs : List Subroutine) (g : ℕ) (sub : Subroutine) (values : List ℕ) → subroutine_at subs g ≡ sub → new_frame subs g values ≡ frame_with g sub values
enters subs g sub values e = ap (λ z. frame_with g z values) e
