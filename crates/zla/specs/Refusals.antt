-- The status of a refusal by the system.
use Rattle.std.specs.Prelude.{◌≡◌, ◌≢◌, ℕ}
use Rattle.std.specs.declared.io.ErrorKind.{ErrorKind}
use Rattle.std.specs.declared.io.ErrorKind.TheVariants.{OutOfMemory}

-- 8 for want of memory, and 11 for any other kind of error
pub record IsRefusal (kind : ErrorKind) (status : ℕ) : Type 0 where
  pub memory : kind ≡ OutOfMemory → status ≡ 8
  pub other : kind ≢ OutOfMemory → status ≡ 11
