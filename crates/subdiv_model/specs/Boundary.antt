-- The boundary modes.
-- Source: Drillolive; the numbers in files are those of OpenSubdiv's shapes.

-- what the boundary of a mesh does
pub data Boundary : Type 0 where
  -- edge only, and the faces at the boundary are holes
  Hidden : Boundary
  -- boundary edges are infinitely sharp
  EdgeOnly : Boundary
  -- boundary edges and the vertices of exactly one face are infinitely sharp
  EdgeAndCorner : Boundary
