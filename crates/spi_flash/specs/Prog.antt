-- The Rust's calls as programs over transfers: a program gives out a transfer and goes on with its value, or ends.
-- A transfer that the bus failed ends the program with that error, as `?` does, so a program goes on only with values.
use Rattle.std.specs.Prelude.{ℕ, Bool, true, false}
use Rattle.qspi.specs.declared.transfer.Transfer.{Transfer}
use Rattle.spi_flash.specs.declared.error.FlashError.{FlashError}

infixl 20 ◌>>=◌
infixl 20 ◌>>◌
pub data Prog (A : Type 0) : Type 0 where
  ret : A → Prog A
  fail : FlashError → Prog A
  ask : Transfer → (ℕ → Prog A) → Prog A

unfoldable pub ◌>>=◌ : {A B : Type 0} → Prog A → (A → Prog B) → Prog B
◌>>=◌ (ret a) f = f a
◌>>=◌ (fail e) f = fail e
◌>>=◌ (ask t k) f = ask t (λ v. k v >>= f)

unfoldable pub ◌>>◌ : {A B : Type 0} → Prog A → Prog B → Prog B
◌>>◌ p q = p >>= (λ _. q)

-- `if c { return Err(e) }`
unfoldable pub refuse : Bool → FlashError → Prog (Unit {0})
refuse true e = fail e
refuse false e = ret tt

-- one transfer, and its value
abbrev pub transfer : Transfer → Prog ℕ
transfer t = ask t ret
