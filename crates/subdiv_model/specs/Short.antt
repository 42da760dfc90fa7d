-- Numbers of a mesh that are less than 10^37 in amount.
-- Source: Drillolive.
use Rattle.std.specs.Prelude.{◌^◌, ◌<◌, ℤ, unsigned_abs}

-- the number is less than 10^37 in amount
abbrev pub IsShort : ℤ → Type 0
IsShort number = unsigned_abs number < 10 ^ 37

-- each coordinate of the point is less than 10^37 in amount
abbrev pub IsShortPoint : ℤ × ℤ × ℤ → Type 0
IsShortPoint point = IsShort point.0 × IsShort point.1 × IsShort point.2

-- each coordinate of the texture value is less than 10^37 in amount
abbrev pub IsShortTexture : ℤ × ℤ → Type 0
IsShortTexture value = IsShort value.0 × IsShort value.1
