-- How a part that stops, or wants memory, ends the rule that it belongs to. Each lemma is one step of the path from a part to the
-- whole; as a ruleset they close most exits of a reader.
use Rattle.std.proofs.Common.{◌≡◌, true, false, List, Result, Ok, Err}
use Rattle.scan_text.specs.declared.Place.{Place}
use Rattle.grammar.specs.declared.Fault.{Fault}
use Rattle.grammar.specs.declared.ReadError.{ReadError}
use Rattle.grammar.specs.declared.ReadError.TheVariants as errors
use Rattle.grammar.specs.Rules.{Rule, seq, choice, name, option, repeat, within, Tree, Node, Rules, enters, here, Reads, both, named, inside, Stops, first, second, in_left, in_right, in_option, in_repeat, later, in_name, not_inside, too_far, in_within}
use Rattle.grammar.specs.Reading.{Halt, memory, fault}
use Rattle.grammar.proofs.Steps.{halt}

module _ {T S N V : Type 0} {g : Rules T S N V} where
  pub halt_first : {s : S} {a b : Rule T S N V} {ts : List T} {e : ReadError} → Halt (Stops T S N V g s a ts) e → Halt (Stops T S N V g s (seq a b) ts) e
  halt_first h = halt (λ f p. first p) h

  pub halt_second : {s s1 : S} {a b : Rule T S N V} {x : Tree V} {ts us : List T} {e : ReadError} → Reads T S N V g s a ts x s1 us → Halt (Stops T S N V g s1 b us) e → Halt (Stops T S N V g s (seq a b) ts) e
  halt_second r h = halt (λ f p. second r p) h

  pub halt_left : {s : S} {a b : Rule T S N V} {ts : List T} {e : ReadError} → enters g a ts ≡ true → Halt (Stops T S N V g s a ts) e → Halt (Stops T S N V g s (choice a b) ts) e
  halt_left i h = halt (λ f p. in_left i p) h

  pub halt_right : {s : S} {a b : Rule T S N V} {ts : List T} {e : ReadError} → enters g a ts ≡ false → enters g b ts ≡ true → Halt (Stops T S N V g s b ts) e → Halt (Stops T S N V g s (choice a b) ts) e
  halt_right i j h = halt (λ f p. in_right i j p) h

  pub halt_option : {s : S} {a : Rule T S N V} {ts : List T} {e : ReadError} → enters g a ts ≡ true → Halt (Stops T S N V g s a ts) e → Halt (Stops T S N V g s (option a) ts) e
  halt_option i h = halt (λ f p. in_option i p) h

  pub halt_repeat : {s : S} {a : Rule T S N V} {ts : List T} {e : ReadError} → enters g a ts ≡ true → Halt (Stops T S N V g s a ts) e → Halt (Stops T S N V g s (repeat a) ts) e
  halt_repeat i h = halt (λ f p. in_repeat i p) h

  pub halt_later : {s s1 : S} {a : Rule T S N V} {x : Tree V} {ts us : List T} {e : ReadError} → enters g a ts ≡ true → Reads T S N V g s a ts x s1 us → Halt (Stops T S N V g s1 (repeat a) us) e → Halt (Stops T S N V g s (repeat a) ts) e
  halt_later i r h = halt (λ f p. later i r p) h

  pub halt_name : {s : S} {n : N} {ts : List T} {e : ReadError} → Halt (Stops T S N V g s (g.body n) ts) e → Halt (Stops T S N V g s (name n) ts) e
  halt_name h = halt (λ f p. in_name p) h

  pub halt_within : {s s1 : S} {enter : S → Place → Result S Fault} {leave : S → S → S} {a : Rule T S N V} {ts : List T} {e : ReadError} → enters g a ts ≡ true → enter s (here g ts) ≡ Ok s1 → Halt (Stops T S N V g s1 a ts) e → Halt (Stops T S N V g s (within enter leave a) ts) e
  halt_within i o h = halt (λ f p. in_within i o p) h

  -- the place where the code has found that the part begins
  pub halt_within_at : {s s1 : S} {enter : S → Place → Result S Fault} {leave : S → S → S} {a : Rule T S N V} {ts : List T} {e : ReadError} {at : Place} → enters g a ts ≡ true → at ≡ here g ts → enter s at ≡ Ok s1 → Halt (Stops T S N V g s1 a ts) e → Halt (Stops T S N V g s (within enter leave a) ts) e
  halt_within_at {s = s} {enter = enter} i p o h = halt_within i (rw p at o) h

  pub halt_too_far : {s : S} {enter : S → Place → Result S Fault} {leave : S → S → S} {a : Rule T S N V} {ts : List T} {f : Fault} {at : Place} → enters g a ts ≡ true → at ≡ here g ts → enter s at ≡ Err f → Halt (Stops T S N V g s (within enter leave a) ts) (errors.Fault f)
  halt_too_far i p o = fault (too_far i (rw p at o))

  pub inside_at : {s s1 s2 : S} {enter : S → Place → Result S Fault} {leave : S → S → S} {a : Rule T S N V} {x : Tree V} {ts us : List T} {at : Place} → enters g a ts ≡ true → at ≡ here g ts → enter s at ≡ Ok s1 → Reads T S N V g s1 a ts x s2 us → Reads T S N V g s (within enter leave a) ts (Node x) (leave s s2) us
  inside_at i p o h = inside i (rw p at o) h

-- The exits of a reader: how parts that are read make up the whole, and how one that stops or wants memory stops it. A reader adds what
-- its own choices need.
pub ruleset exits = (memory, fault, both, halt_first, halt_second, inside_at, halt_within_at, halt_too_far, not_inside)
