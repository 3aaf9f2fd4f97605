-- What the pointer of a stream owns: the box of its session, if there is one.
use Rattle.std.specs.Prelude.{Option, Some, None}
use Rattle.std.specs.Box.Ownership.{box_owns}
use Rattle.std.specs.contracts.impls.GlobalAllocator.TheImpl.{ghosts}
use base.Fml.{Fml, ftrue}
use denote.RawPtr.{Ptr}
use Rattle.library_calls.specs.contracts.session.Session.{the_row}
use Rattle.library_calls.specs.declared.session.Session.{Session}

abbrev pub owned_session : Ptr → Option Session → Fml
owned_session at None = ftrue
owned_session at (Some session) = box_owns (ghosts.dealloc_token (record { memory = record { seal = tt } })) the_row at session
