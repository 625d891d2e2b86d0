-- What the machine answers to a key is what the meaning says, and it is the same for states that are the same.
use Rattle.std.proofs.Common.{◌≡◌, ℕ, sym, ap, ◌∙◌}
use Rattle.machine_io.specs.History.{OnStop}
use Rattle.machine_io.specs.declared.machine.Moved.{Moved}
use Rattle.machine_io.specs.declared.machine.Stray.TheVariants as Why
use Rattle.jack_meaning.specs.Meaning.{step}
use Rattle.jack_core.specs.Texts.{the_subroutines}
use Rattle.jack_machine.specs.Whole.{jack_state, IsSame, JackStep, answer_of, jack_reply}
use Rattle.jack_machine.specs.declared.jack.Jack.{Jack}

pub replies : (key : ℕ) (old new : Jack) (answer : Moved) → JackStep key old answer new → answer ≡ jack_reply old key
replies key old new Moved.Acted h = sym (ap answer_of h.1)
replies key old new (Moved.Stray (Why.Address a)) h = sym (ap answer_of h.0)
replies key old new Moved.Done h = sym (ap answer_of h.0)
replies key old new (Moved.Full w) h = absurd h
replies key old new (Moved.Stray Why.Values) h = absurd h
replies key old new (Moved.Stray Why.Argument) h = absurd h
replies key old new (Moved.Stray Why.Local) h = absurd h
replies key old new (Moved.Stray Why.Code) h = absurd h

pub same_reply : (old new : Jack) → new.core ≡ old.core → IsSame old new → (k : ℕ) → jack_reply new k ≡ jack_reply old k
same_reply old new core same k =
    ap (λ s. answer_of (step (the_subroutines new.core.now) k s)) same
    ∙ ap (λ c. answer_of (step (the_subroutines c.now) k (jack_state old))) core

pub again : (key : ℕ) (old new : Jack) (answer : Moved) → new.core ≡ old.core → JackStep key old answer new → OnStop answer ((k : ℕ) → jack_reply new k ≡ jack_reply old k)
again key old new Moved.Acted core h = tt
again key old new (Moved.Stray (Why.Address a)) core h = same_reply old new core h.1
again key old new Moved.Done core h = same_reply old new core h.1
again key old new (Moved.Full w) core h = absurd h
again key old new (Moved.Stray Why.Values) core h = absurd h
again key old new (Moved.Stray Why.Argument) core h = absurd h
again key old new (Moved.Stray Why.Local) core h = absurd h
again key old new (Moved.Stray Why.Code) core h = absurd h
