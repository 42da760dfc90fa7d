-- The keyword of a line.
use Rattle.std.specs.Prelude.{ℕ, ◌≡◌, true, false, Option, MatchOption}
use Rattle.subdiv_model.specs.ObjLine.{is_vertex_line, is_face_line}
use Rattle.subdiv_model.specs.ReadObj.{is_texture_line, is_tag_line, has_known_keyword}
use Rattle.obj_tags.specs.Line.{Line}
use Rattle.obj_tags.specs.declared.line.Keyword.{Keyword}
use Rattle.obj_tags.specs.declared.line.Keyword.TheVariants as keyword

-- The line has this keyword and none of those before it in the order of keywords.
abbrev pub IsKeywordOf : Keyword → Line → Type 0
IsKeywordOf keyword.Position words = is_vertex_line words ≡ true
IsKeywordOf keyword.Texture words = (is_vertex_line words ≡ false) × (is_texture_line words ≡ true)
IsKeywordOf keyword.Face words = (is_vertex_line words ≡ false) × (is_texture_line words ≡ false) × (is_face_line words ≡ true)
IsKeywordOf keyword.Tag words =
    (is_vertex_line words ≡ false) × (is_texture_line words ≡ false) × (is_face_line words ≡ false) × (is_tag_line words ≡ true)
IsKeywordOf keyword.Ignored words =
    (is_vertex_line words ≡ false) × (is_texture_line words ≡ false) × (is_face_line words ≡ false) × (is_tag_line words ≡ false)

-- The keyword of a line, if it has one.
abbrev pub IsReadAs : Option Keyword → Line → Type 0
IsReadAs read line =
    MatchOption read (has_known_keyword line ≡ false) (λ keyword. (has_known_keyword line ≡ true) × IsKeywordOf keyword line)

-- How many words must follow a keyword.
abbrev pub least_of : Keyword → ℕ
least_of keyword.Position = 3
least_of keyword.Texture = 1
least_of keyword.Face = 1
least_of keyword.Tag = 2
least_of keyword.Ignored = 0
