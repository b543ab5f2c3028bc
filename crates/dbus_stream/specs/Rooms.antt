-- What is known of the buffer of a reader.
use Rattle.std.specs.Prelude.{ℕ, List, Option, None, Some, Vec}

pub record Room (B : Type 0) : Type 0 where
  -- how many bytes it has room for
  pub size : ℕ
  -- the bytes there
  pub bytes : B → List ℕ

-- the bytes that were put in place of those of the last read, or else these
abbrev pub put_or : {A : Type 0} → Option (Vec ℕ A) → List ℕ → List ℕ
put_or None read = read
put_or (Some put) read = put.items
