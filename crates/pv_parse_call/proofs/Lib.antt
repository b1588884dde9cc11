mod Bases
