-- Stops and thermographs as text.
use Rattle.std.specs.Prelude.{◌++◌, ℕ, List, [], ◌∷◌, codes}
use Rattle.cg_dyadic.specs.Exact.{number_text}
use Rattle.cg_dyadic.specs.Number.{Number}
use Rattle.cg_thermo.specs.declared.corners.Corner.{Corner}
use Rattle.cg_thermo.specs.declared.thermo.Walls.{Walls}

-- value@t
abbrev pub corner_text : Corner → List ℕ
corner_text c = number_text c.value ++ codes "@" ++ number_text c.at

-- each with a blank before it
abbrev pub corners_text : List Corner → List ℕ
corners_text [] = []
corners_text (c ∷ cs) = codes " " ++ corner_text c ++ corners_text cs

-- left x right y
abbrev pub stops_text : Number → Number → List ℕ
stops_text left right = codes "left " ++ number_text left ++ codes " right " ++ number_text right

abbrev pub mean_text : Walls → List ℕ
mean_text w = number_text w.mean

abbrev pub temp_text : Walls → List ℕ
temp_text w = number_text w.temp

-- mean m temp t left C right D
abbrev pub thermograph_text : Walls → List ℕ
thermograph_text w =
    codes "mean " ++ number_text w.mean ++ codes " temp " ++ number_text w.temp
    ++ codes " left" ++ corners_text w.left ++ codes " right" ++ corners_text w.right
