-- The bodies of the standard gates by the first of their names (OpenQASM 3.0 live specification, "Standard library"; Cross et al. 2022).
use Rattle.std.specs.Prelude.{[], ◌∷◌}
use Rattle.qt_gate_calls.specs.declared.body.GateBody.{GateBody}
use Rattle.qt_gate_calls.specs.Standard as table
use Rattle.qt_gates.specs.declared.table.Form.{Form}
use Rattle.qt_gates.specs.declared.table.Form.TheVariants as form

abbrev pub body_of : Form → GateBody
body_of form.Id = table.id_gate
body_of form.P = table.p_gate
body_of form.Z = table.p_at table.half_turn
body_of form.S = table.p_at table.quarter_turn
body_of form.T = table.p_at table.eighth_turn
body_of form.Sdg = table.p_at table.quarter_back
body_of form.Tdg = table.p_at table.eighth_back
body_of form.X = table.x_gate
body_of form.Y = table.y_gate
body_of form.H = table.h_gate
body_of form.Sx = table.sx_gate
body_of form.Rx = table.rx_gate
body_of form.Ry = table.ry_gate
body_of form.Rz = table.rz_gate
body_of form.U2 = table.u2_gate
body_of form.U3 = table.u3_gate
body_of form.Cx = table.controlled_row 9 [] table.x_gate
body_of form.Cy = table.controlled_row 10 [] table.y_gate
body_of form.Cz = table.controlled_row 4 [] (table.p_at table.half_turn)
body_of form.Cp = table.controlled_row 1 (table.given 0 ∷ []) table.p_gate
body_of form.Crx = table.controlled_row 13 (table.given 0 ∷ []) table.rx_gate
body_of form.Cry = table.controlled_row 14 (table.given 0 ∷ []) table.ry_gate
body_of form.Crz = table.controlled_row 15 (table.given 0 ∷ []) table.rz_gate
body_of form.Ch = table.controlled_row 11 [] table.h_gate
body_of form.Swap = table.swap_gate
body_of form.Ccx = table.ccx_gate
body_of form.Cswap = table.cswap_gate
body_of form.Cu = table.cu_gate
