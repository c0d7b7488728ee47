-- Actions, and the replies that fit them (docs/SPECIFICATION.md, "Actions and replies"; qspi/bus.rs).
use Rattle.std.specs.Prelude.{ℕ, Bool, true, false, eqb}
use Rattle.qspi.specs.declared.bus.Action.{Action}
use Rattle.qspi.specs.declared.bus.Reply.{Reply}
use Rattle.qspi.specs.declared.bus.Awaits.{Awaits}

-- what an action awaits
abbrev pub awaits_of : Action → Awaits
awaits_of Action.SelectLow = Awaits.Done
awaits_of Action.SelectHigh = Awaits.Done
awaits_of (Action.Write part) = Awaits.DoneOrError
awaits_of (Action.Read n) = Awaits.BytesOrError n
awaits_of (Action.QuadRead command tclqv margin n) = Awaits.BytesOrError n
awaits_of (Action.QuadWrite command payload) = Awaits.DoneOrError
awaits_of (Action.Delay us) = Awaits.Done

abbrev pub fits_at : Awaits → Reply → ℕ → Bool
fits_at Awaits.Done Reply.Done n = true
fits_at Awaits.Done Reply.Data n = false
fits_at Awaits.Done (Reply.Error code) n = false
fits_at Awaits.DoneOrError Reply.Done n = true
fits_at Awaits.DoneOrError Reply.Data n = false
fits_at Awaits.DoneOrError (Reply.Error code) n = true
fits_at (Awaits.BytesOrError m) Reply.Done n = false
fits_at (Awaits.BytesOrError m) Reply.Data n = eqb n m
fits_at (Awaits.BytesOrError m) (Reply.Error code) n = true

-- whether a reply with n bytes answers an action
unfoldable pub fits_of : Action → Reply → ℕ → Bool
fits_of action reply n = fits_at (awaits_of action) reply n

-- whether the bus answers it: select and the delay are the host's
abbrev pub on_bus : Action → Bool
on_bus Action.SelectLow = false
on_bus Action.SelectHigh = false
on_bus (Action.Write part) = true
on_bus (Action.Read n) = true
on_bus (Action.QuadRead command tclqv margin n) = true
on_bus (Action.QuadWrite command payload) = true
on_bus (Action.Delay us) = false
