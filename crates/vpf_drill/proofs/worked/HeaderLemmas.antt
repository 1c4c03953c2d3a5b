-- The headers of the tables of the worked coverage, as texts.
use Rattle.std.proofs.Common.{[], ◌≡◌, ℕ, List, ◌∷◌, ◌++◌, codes, refl}
use Rattle.vpf_head.specs.Canonical.{canonical_text, columns_text, column_text}
use Rattle.vpf_table.specs.Grid.{Grid}
use Rattle.vpf_vectors.specs.Inner.HeadLaws.{one, eight}
use Rattle.vpf_drill.specs.Inner.Worked.Tables.{worked_classes, worked_edges, worked_faces, worked_nodes, worked_plan, worked_rings, worked_roads, worked_tiles}

-- the text of each header, which is the canonical one
abbrev pub tiles_text : List ℕ
tiles_text =
    codes "L;Tiles;-;id=I,1,P,Id,-,-,-,:tile_name=T,8,N,Name,-,-,-,:;"

pub tiles_are : canonical_text worked_tiles.head ≡ tiles_text
unfolding canonical_text columns_text column_text
tiles_are = rw (one, eight) refl

abbrev pub edges_text : List ℕ
edges_text =
    codes "L;Edges;-;id=I,1,P,Id,-,-,-,:start_node=I,1,N,Start,-,-,-,:end_node=I,1,N,End,-,-,-,:right_face=I,1,N,Right,-,-,-,:"
    ++ codes "left_face=I,1,N,Left,-,-,-,:right_edge=I,1,N,Right,-,-,-,:left_edge=I,1,N,Left,-,-,-,:road_id=I,1,N,Road,-,-,-,:;"

pub edges_are : canonical_text worked_edges.head ≡ edges_text
unfolding canonical_text columns_text column_text
edges_are = rw one refl

abbrev pub faces_text : List ℕ
faces_text =
    codes "L;Faces;-;id=I,1,P,Id,-,-,-,:ring_ptr=I,1,N,Ring,-,-,-,:;"

pub faces_are : canonical_text worked_faces.head ≡ faces_text
unfolding canonical_text columns_text column_text
faces_are = rw one refl

abbrev pub rings_text : List ℕ
rings_text =
    codes "L;Rings;-;id=I,1,P,Id,-,-,-,:face_id=I,1,N,Face,-,-,-,:start_edge=I,1,N,Edge,-,-,-,:;"

pub rings_are : canonical_text worked_rings.head ≡ rings_text
unfolding canonical_text columns_text column_text
rings_are = rw one refl

abbrev pub nodes_text : List ℕ
nodes_text =
    codes "L;Nodes;-;id=I,1,P,Id,-,-,-,:first_edge=I,1,N,Edge,-,-,-,:;"

pub nodes_are : canonical_text worked_nodes.head ≡ nodes_text
unfolding canonical_text columns_text column_text
nodes_are = rw one refl

abbrev pub plan_text : List ℕ
plan_text =
    codes "L;Plan;-;id=I,1,P,Face,-,-,-,:tile_id=I,1,N,Tile,-,-,-,:;"

pub plan_are : canonical_text worked_plan.head ≡ plan_text
unfolding canonical_text columns_text column_text
plan_are = rw one refl

abbrev pub classes_text : List ℕ
classes_text =
    codes "L;Classes;-;id=I,1,P,Id,-,-,-,:feature_class=T,8,N,Class,-,-,-,:table1=T,8,N,Table,-,-,-,:table1_key=T,8,N,Key,-,-,-,:"
    ++ codes "table2=T,8,N,Table,-,-,-,:table2_key=T,8,N,Key,-,-,-,:;"

pub classes_are : canonical_text worked_classes.head ≡ classes_text
unfolding canonical_text columns_text column_text
classes_are = rw (one, eight) refl

abbrev pub roads_text : List ℕ
roads_text =
    codes "L;Roads;-;id=I,1,P,Id,-,-,-,:lanes=I,1,N,Lanes,-,lanes.ti,-,:;"

pub roads_are : canonical_text worked_roads.head ≡ roads_text
unfolding canonical_text columns_text column_text
roads_are = rw one refl

-- the tables, each with the text of its header
abbrev pub worked_texts : List (List ℕ × Grid)
worked_texts =
    (tiles_text, worked_tiles)
    ∷ (edges_text, worked_edges)
    ∷ (faces_text, worked_faces)
    ∷ (rings_text, worked_rings)
    ∷ (nodes_text, worked_nodes)
    ∷ (plan_text, worked_plan)
    ∷ (classes_text, worked_classes)
    ∷ (roads_text, worked_roads)
    ∷ []
