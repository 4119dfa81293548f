-- Texts and rectangles of an SVG document.
use Rattle.std.specs.Prelude.{ℕ, List, ◌++◌, codes, decimal}

-- words of a class, at a place on their base line
unfoldable pub text_at : List ℕ → ℕ → ℕ → List ℕ → List ℕ
text_at class x y words =
    codes "<text class=\"" ++ (class ++ (codes "\" x=\"" ++ (decimal x ++ (codes "\" y=\"" ++ (decimal y ++ (codes "\">" ++ (words ++ codes "</text>\n")))))))

-- the front of a rectangle
unfoldable pub rect_front : List ℕ → ℕ → ℕ → ℕ → ℕ → List ℕ
rect_front class x y width height =
    codes "<rect class=\"" ++ (class ++ (codes "\" x=\"" ++ (decimal x ++ (codes "\" y=\"" ++ (decimal y ++ (codes "\" width=\"" ++ (decimal width ++ (codes "\" height=\"" ++ (decimal height ++ codes "\"")))))))))

-- a rectangle of a class
unfoldable pub rect : List ℕ → ℕ → ℕ → ℕ → ℕ → List ℕ
rect class x y width height = rect_front class x y width height ++ codes "/>\n"

-- the same with a title, which a browser shows at it
unfoldable pub titled : List ℕ → ℕ → ℕ → ℕ → ℕ → List ℕ → List ℕ
titled class x y width height title = rect_front class x y width height ++ (codes "><title>" ++ (title ++ codes "</title></rect>\n"))
