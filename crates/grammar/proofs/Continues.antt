-- What a loop keeps: what is still to be read completes what was begun.
use Rattle.std.proofs.Common.{◌≡◌, ◌∙◌, true, false, Bool, List, subst, sym}
use Rattle.grammar.specs.declared.Fault.{Fault}
use Rattle.grammar.specs.declared.ReadError.{ReadError}
use Rattle.grammar.specs.Rules.{Rule, seq, repeat, name, Tree, Pair, More, NoMore, Node, Rules, enters, Reads, both, named, again, ended, Stops, second, in_name, in_repeat, later}
use Rattle.grammar.specs.Reading.{Halt}
use Rattle.grammar.proofs.Steps.{halt}

-- The reading of the rule whole began at (s, ts). Whatever the rule left reads or stops at from (s1, us), the whole reads or stops at,
-- and its tree is grow of the tree of left.
pub record Continues (T S N V : Type 0) (g : Rules T S N V) (whole : Rule T S N V) (s : S) (ts : List T) (grow : Tree V → Tree V) (left : Rule T S N V) (s1 : S) (us : List T) : Type 0 where
  pub reads : {x : Tree V} {s2 : S} {vs : List T} → Reads T S N V g s1 left us x s2 vs → Reads T S N V g s whole ts (grow x) s2 vs
  pub stops : {f : Fault} → Stops T S N V g s1 left us f → Stops T S N V g s whole ts f

module _ {T S N V : Type 0} {g : Rules T S N V} where
  -- nothing is read yet
  pub begun : {a : Rule T S N V} {s : S} {ts : List T} → Continues T S N V g a s ts (λ x. x) a s ts
  begun = record { reads = λ h. h; stops = λ h. h }

  -- the first of two parts is read
  pub begun_seq : {a b : Rule T S N V} {x : Tree V} {s s1 : S} {ts us : List T} → Reads T S N V g s a ts x s1 us → Continues T S N V g (seq a b) s ts (Pair x) b s1 us
  begun_seq r = record { reads = λ h. both r h; stops = λ h. second r h }

  -- so it is in a named rule
  pub begun_name : {n : N} {grow : Tree V → Tree V} {left : Rule T S N V} {s s1 : S} {ts us : List T} → Continues T S N V g (g.body n) s ts grow left s1 us → Continues T S N V g (name n) s ts (λ x. Node (grow x)) left s1 us
  begun_name c = record { reads = λ h. named (c.reads h); stops = λ h. in_name (c.stops h) }

  -- one more of a repetition
  pub go_on : {whole a : Rule T S N V} {grow : Tree V → Tree V} {x : Tree V} {s s1 s2 : S} {ts us vs : List T} → Continues T S N V g whole s ts grow (repeat a) s1 us → enters g a us ≡ true → Reads T S N V g s1 a us x s2 vs → Continues T S N V g whole s ts (λ y. grow (More x y)) (repeat a) s2 vs
  go_on c e r = record { reads = λ h. c.reads (again e r h); stops = λ h. c.stops (later e r h) }

  -- where the tree of the code grows by its own function
  pub go_on_as : {whole a : Rule T S N V} {grow : Tree V → Tree V} {x : Tree V} {s s1 s2 : S} {ts us vs : List T} (grown : Tree V → Tree V) → ((y : Tree V) → grow (More x y) ≡ grown y) → Continues T S N V g whole s ts grow (repeat a) s1 us → enters g a us ≡ true → Reads T S N V g s1 a us x s2 vs → Continues T S N V g whole s ts grown (repeat a) s2 vs
  go_on_as {whole = whole} {s = s} {ts = ts} grown same c e r = record { reads = λ {x} {s2} {vs} h. subst (λ (z : Tree V). Reads T S N V g s whole ts z s2 vs) (same x) (c.reads (again e r h)); stops = λ h. c.stops (later e r h) }

  -- the repetition is over
  pub done : {whole a : Rule T S N V} {grow : Tree V → Tree V} {s s1 : S} {ts us : List T} → Continues T S N V g whole s ts grow (repeat a) s1 us → enters g a us ≡ false → Reads T S N V g s whole ts (grow NoMore) s1 us
  done c e = c.reads (ended e)

  -- what is left is read
  pub completed : {whole left : Rule T S N V} {grow : Tree V → Tree V} {x : Tree V} {s s1 s2 : S} {ts us vs : List T} → Continues T S N V g whole s ts grow left s1 us → Reads T S N V g s1 left us x s2 vs → Reads T S N V g s whole ts (grow x) s2 vs
  completed c r = c.reads r

  -- what is left stops
  pub halt_left_over : {whole left : Rule T S N V} {grow : Tree V → Tree V} {s s1 : S} {ts us : List T} {e : ReadError} → Continues T S N V g whole s ts grow left s1 us → Halt (Stops T S N V g s1 left us) e → Halt (Stops T S N V g s whole ts) e
  halt_left_over c h = halt (λ f p. c.stops p) h

  -- the part of the repetition that is being read stops
  pub halt_more : {whole a : Rule T S N V} {grow : Tree V → Tree V} {s s1 : S} {ts us : List T} {e : ReadError} → Continues T S N V g whole s ts grow (repeat a) s1 us → enters g a us ≡ true → Halt (Stops T S N V g s1 a us) e → Halt (Stops T S N V g s whole ts) e
  halt_more c i h = halt (λ f p. c.stops (in_repeat i p)) h

  -- so it is where the code has tested that one more of the repetition begins
  pub halt_tested : {whole a : Rule T S N V} {grow : Tree V → Tree V} {s s1 : S} {ts us : List T} {e : ReadError} {test : Bool} → Continues T S N V g whole s ts grow (repeat a) s1 us → test ≡ enters g a us → test ≡ true → Halt (Stops T S N V g s1 a us) e → Halt (Stops T S N V g s whole ts) e
  halt_tested c b t h = halt_more c (sym b ∙ t) h
