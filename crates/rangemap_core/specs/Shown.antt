-- What is taken of stored pairs: the parts themselves, or references that lead to them.

-- the range of the pair that is shown
abbrev pub shown_range : {G W R : Type 0} → (G → R) → G × W → R
shown_range given pair = given pair.0

-- the pair that is shown
abbrev pub shown : {G W R V : Type 0} → (G → R) → (W → V) → G × W → R × V
shown given given_value pair = (given pair.0, given_value pair.1)
