-- What a step comes to: the next transfer's first action, or the call's end (docs/SPECIFICATION.md, "Actions and replies").
use Rattle.std.specs.Prelude.{ℕ, true}
use Rattle.qspi.specs.Frame.{first_of, action_of}
use Rattle.qspi.specs.declared.transfer.Transfer.{Transfer}
use Rattle.spi_flash.specs.declared.error.FlashError.{FlashError}
use Rattle.spi_flash.specs.declared.loan.Takes.{Takes}
use Rattle.spi_flash.specs.Shape.{Then, go, end, fail, Shape}

module _ {F S P A G : Type 0} (shape : Shape F S P A G) where
  -- gives out the first action of a transfer
  abbrev pub started : F → Takes → S → Transfer → P → G
  started flash takes setup transfer phase =
      shape.acting (shape.busy_with setup (shape.built flash) (shape.delivered flash) phase (first_of transfer) takes) (action_of (first_of transfer))

  -- a call that has succeeded leaves the driver built
  abbrev pub succeeded : S → ℕ → A → G
  succeeded setup delivered answer = shape.ended (shape.resting setup true delivered) answer

  -- a call that fails keeps what it has delivered (docs/SPECIFICATION.md, "Lent memory")
  abbrev pub broken : F → FlashError → G
  broken flash error = shape.failed (shape.resting (shape.setup flash) (shape.built flash) (shape.delivered flash)) error

  -- goes on with the next transfer, or ends the call
  unfoldable pub settled : F → Takes → Then S P A → G
  settled flash takes (go setup transfer phase) = started flash takes setup transfer phase
  settled flash takes (end setup answer) = succeeded setup (shape.delivered flash) answer
  settled flash takes (fail error) = broken flash error
